use Rattle.std.proofs.Common.{◌≡◌, ◌==◌, drop, get_or, true, w64, to_z, of_z, Some, sym, ap, ◌∙◌, arith, take_all, length-drop}
use Rattle.std.proofs.lemmas.Int.{to_z-of_z}
use Rattle.fast_float.specs.Text.{scan, digits_of, with_sign}
use Rattle.serde_json.specs.Data.{negative}
use Rattle.art_lines.proofs.NumberLaws.{number_of-negative}
use Rattle.art_lines.proofs.tokens.negative.Goals as goal

pub returns-then-whole-lt0 : goal.returns-then-whole-lt0
returns-then-whole-lt0 c =
    let s = c.args.text.now in
    let signed : (get_or s 0 0 == 45) ≡ true = sym c.if-not-has_minus.ensures.value in
    let parts : c.scan.result ≡ scan (drop 1 s) = c.scan.ensures.parts ∙ ap scan (take_all _ (drop 1 s) (omega (arith, length-drop 1 s))) in
    let read = c.in_ok-whole.ensures in
    let z = c.in_ok-whole.whole in
    let is : z ≡ with_sign true (digits_of (scan (drop 1 s))) = read.1 ∙ ap (λ p. with_sign true (digits_of p)) parts in
    let fits = rw (← read.1) at read.0.1 in
    let same : to_z w64 (of_z w64 z) ≡ z = to_z-of_z w64 z fits in
    let said = number_of-negative s signed (rw parts at read.0.0) (rw parts at read.0.1) (rw (same, is) at c.if-whole-lt0.true) in
    rw same (said ∙ ap (λ y. Some (negative y)) (sym is))
