use Rattle.std.proofs.Common.{◌≡◌, to_z, of_z, Ok, sym, ap, ◌∙◌, arith}
use Rattle.std.specs.Int.{w128}
use Rattle.std.proofs.lemmas.Int.{to_z-of_z}
use Rattle.art_model.specs.declared.values.Value.TheVariants.{Int}
use Rattle.serde_json.specs.Data.{unsigned}
use Rattle.art_lines.proofs.tokens.whole_value.Goals as goal

pub returns-in-Some : goal.returns-in-Some
returns-in-Some c =
    let z = c.from.result in
    let same : to_z w128 (of_z w128 z) ≡ z = grind (arith, to_z-of_z) in
    (unsigned c.in-Some.whole, c.in-Some.ensures, λ place. ap (λ y. Ok (Int y)) (sym (same ∙ c.from.ensures)))
