use Rattle.std.proofs.Common.{◌≡◌, Some, ◌∙◌, sym, ap, subst}
use Rattle.art_model.specs.Answers.{insert_answer}
use Rattle.art_model.specs.Rows.{IsSortedRows, value_at}
use Rattle.art_model.proofs.Places.{there, nowhere, put_in, put_in_sorted}
use Rattle.art_model.proofs.sorted_rows.SortedRows.insert.Goals as goal
use Rattle.art_model.proofs.sorted_rows.SortedRows.insert.Goals.{After-index}

-- the row with the tuple has this value
present : (c : After-index) → value_at c.args.self.now.rows c.args.tuple.now ≡ Some c.index.result.now.value
present c = there c.deref.ensures.value c.self.view_is c.in-Ok.ensures c.index.ensures

pub returns-in-Ok-clause-reply : goal.returns-in-Ok-clause-reply
returns-in-Ok-clause-reply c = sym (ap (λ o. (insert_answer c.args.self.now.order c.args.self.now.rows c.args.tuple.now c.args.value o).0) (present c))

pub returns-in-Ok-clause-rows : goal.returns-in-Ok-clause-rows
returns-in-Ok-clause-rows c = sym (ap (λ o. (insert_answer c.args.self.now.order c.args.self.now.rows c.args.tuple.now c.args.value o).1) (present c))

pub invariant_of-self-in-Err : goal.invariant_of-self-in-Err
invariant_of-self-in-Err c =
    subst (IsSortedRows _) (sym c.in_ok-insert-in-Err.ensures.items) (put_in_sorted c.deref.ensures.value c.self.view_is c.in-Err.ensures c.args.value c.in_ok-tuple-in-Err.ensures c.self.invariant)

pub returns-in_ok-insert-in-Err-clause-reply : goal.returns-in_ok-insert-in-Err-clause-reply
returns-in_ok-insert-in-Err-clause-reply c =
    sym (ap (λ o. (insert_answer c.args.self.now.order c.args.self.now.rows c.args.tuple.now c.args.value o).0) (nowhere c.deref.ensures.value c.self.view_is c.in-Err.ensures))

pub returns-in_ok-insert-in-Err-clause-rows : goal.returns-in_ok-insert-in-Err-clause-rows
returns-in_ok-insert-in-Err-clause-rows c =
    c.in_ok-insert-in-Err.ensures.items
    ∙ put_in c.deref.ensures.value c.self.view_is c.in-Err.ensures c.args.value c.in_ok-tuple-in-Err.ensures
    ∙ sym (ap (λ o. (insert_answer c.args.self.now.order c.args.self.now.rows c.args.tuple.now c.args.value o).1) (nowhere c.deref.ensures.value c.self.view_is c.in-Err.ensures))
