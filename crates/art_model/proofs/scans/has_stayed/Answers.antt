use Rattle.std.proofs.Common.{IsSome, rules, tests}
use Rattle.std.proofs.lemmas.Iterator.{cases_from_all, YieldsList-from_slice}
use Rattle.art_model.specs.Rows.{Sorted, value_at}
use Rattle.art_model.proofs.Owed.{all_answers, all_each}
use Rattle.art_model.proofs.scans.has_stayed.Goals as goal

-- what each of the maps has is in the rows of each
pub returns : goal.returns
returns c =
    let states = c.args.states.now in
    let P : Sorted → Type 0 = λ m. IsSome (value_at m.rows c.args.tuple.now) in
    let stayed = all_answers P c.all.result states (cases_from_all _ _ _ P (λ m. P m → ⊥) c.all.ensures.ran (YieldsList-from_slice states cc) (λ x q k. search (rules, tests)) (λ x q k. search (rules, tests))) in
    let same = all_each states (λ rows. IsSome (value_at rows c.args.tuple.now)) in
    (λ e. same.0 (stayed.0 e), λ all. stayed.1 (same.1 all))
