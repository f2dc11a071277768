use Rattle.std.proofs.Common.{◌∙◌, sym, ap, subst}
use Rattle.art_model.specs.Answers.{remove_answer}
use Rattle.art_model.specs.Rows.{IsSortedRows}
use Rattle.art_model.proofs.Places.{there, taken_out, taken_out_sorted, nowhere}
use Rattle.art_model.proofs.sorted_rows.SortedRows.remove.Goals as goal

pub invariant_of-self : goal.invariant_of-self
invariant_of-self c = subst (IsSortedRows _) (sym c.remove.ensures.items) (taken_out_sorted c.deref.ensures.value c.self.view_is c.in-Ok.ensures c.self.invariant)

pub returns-in-Ok-clause-reply : goal.returns-in-Ok-clause-reply
returns-in-Ok-clause-reply c =
    sym (ap (λ o. (remove_answer c.args.self.now.order c.args.self.now.rows c.args.tuple.now o).0) (there c.deref.ensures.value c.self.view_is c.in-Ok.ensures c.remove.ensures.value))

pub returns-in-Ok-clause-rows : goal.returns-in-Ok-clause-rows
returns-in-Ok-clause-rows c =
    c.remove.ensures.items
    ∙ sym (ap (λ o. (remove_answer c.args.self.now.order c.args.self.now.rows c.args.tuple.now o).1) (there c.deref.ensures.value c.self.view_is c.in-Ok.ensures c.remove.ensures.value)
    ∙ taken_out c.deref.ensures.value c.self.view_is c.in-Ok.ensures)

pub returns-in-Err-clause-reply : goal.returns-in-Err-clause-reply
returns-in-Err-clause-reply c = sym (ap (λ o. (remove_answer c.args.self.now.order c.args.self.now.rows c.args.tuple.now o).0) (nowhere c.deref.ensures.value c.self.view_is c.in-Err.ensures))

pub returns-in-Err-clause-rows : goal.returns-in-Err-clause-rows
returns-in-Err-clause-rows c = sym (ap (λ o. (remove_answer c.args.self.now.order c.args.self.now.rows c.args.tuple.now o).1) (nowhere c.deref.ensures.value c.self.view_is c.in-Err.ensures))
