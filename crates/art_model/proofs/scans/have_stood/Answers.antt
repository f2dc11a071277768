use Rattle.std.proofs.Common.{◌≡◌, Any, Some, rules, tests}
use Rattle.std.proofs.lemmas.Iterator.{cases_from_all, YieldsList-from_slice}
use Rattle.art_model.specs.declared.rows.Row.{Row}
use Rattle.art_model.specs.Rows.{value_at}
use Rattle.art_model.proofs.Owed.{all_answers, any_each}
use Rattle.art_model.proofs.scans.have_stood.Goals as goal

-- what stood in one of the maps did in the rows of one
pub returns : goal.returns
returns c =
    let states = c.args.states.now in
    let P : Row → Type 0 = λ row. Any (λ m. value_at m.rows row.tuple ≡ Some row.value) states in
    let stood = all_answers P c.all.result c.args.rows.now (cases_from_all _ _ _ P (λ row. P row → ⊥) c.all.ensures.ran (YieldsList-from_slice c.args.rows.now cc) (λ x q k. search (rules, tests)) (λ x q k. search (rules, tests))) in
    let same = λ (row : Row). any_each states (λ rows. value_at rows row.tuple ≡ Some row.value) in (
      λ e k row within. (same _).0 (stood.0 e k row within),
      λ all. stood.1 (λ k row within. (same _).1 (all k row within)),
    )
