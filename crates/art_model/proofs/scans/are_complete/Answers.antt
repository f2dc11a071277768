use Rattle.std.proofs.Common.{◌≡◌, ◌<◌, ◌∙◌, length, get_or, sym, ap, arith, All, IsTrue, ◌↔◌, rules, tests}
use Rattle.std.proofs.lemmas.Iterator.{cases_from_all, YieldsList-from_slice}
use Rattle.art_model.specs.declared.rows.Row.{Row}
use Rattle.art_model.specs.Rows.{Sorted, rows_of_each}
use Rattle.art_model.proofs.Owed.{IsSettled, all_answers, as_many, each_rows, settled_by_first}
use Rattle.art_model.proofs.scans.are_complete.Goals as goal

-- each row of the first state is settled, and so is each tuple
pub returns : goal.returns
returns c =
    let first = c.index-states-0.result.rows in
    let states = rows_of_each c.args.states.now in
    let P : Row → Type 0 = λ row. IsSettled c.args.order.now states c.args.lo.now c.args.hi.now c.args.limit c.args.listed.now row.tuple in
    let by_rows : IsTrue c.all.result ↔ All P first = all_answers P c.all.result first (cases_from_all _ _ _ P (λ row. P row → ⊥) c.all.ensures.ran (YieldsList-from_slice first cc) (λ x q k. search (rules, tests)) (λ x q k. search (rules, tests))) in
    let is : first ≡ get_or states 0 first =
    ap (λ (m : Sorted). m.rows) c.index-states-0.is ∙ sym (each_rows c.args.states.now 0 c.index-states-0.result first c.requires) in
    let one : 0 < length states = omega (arith, c.requires, as_many c.args.states.now) in
    let by_tuples = settled_by_first c.args.order.now states c.args.lo.now c.args.hi.now c.args.limit c.args.listed.now first one is in
    (λ e. by_tuples.0 (by_rows.0 e), λ settled. by_rows.1 (by_tuples.1 settled))
