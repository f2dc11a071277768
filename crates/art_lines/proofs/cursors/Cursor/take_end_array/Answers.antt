use Rattle.std.proofs.Common.{◌≡◌, ◌≢◌, Bool, true, false, Some, refl, ap, ◌∙◌}
use Rattle.std.specs.Bool.{MatchBool}
use Rattle.json.specs.Json.{after_end_array}
use Rattle.json.specs.Lex.{between, lex, may_close, punctuate}
use Rattle.art_lines.specs.declared.cursors.Place.{Place}
use Rattle.art_lines.specs.declared.cursors.Place.TheVariants.{Fresh, AfterValue, AfterComma}
use Rattle.art_lines.specs.Cursors.{place_of}
use Rattle.art_lines.proofs.CursorLaws.{ends-array_at}
use Rattle.art_lines.proofs.cursors.Cursor.take_end_array.Goals as goal

closes : (p : Place) → p ≢ AfterComma → may_close (place_of p) ≡ true
closes Fresh other = refl
closes AfterValue other = refl
closes AfterComma other = absurd (other refl)

on_match : (P Q R : Type 0) (b : Bool) → (P → Q) → MatchBool b P R → MatchBool b Q R
on_match P Q R true f m = f m
on_match P Q R false f m = m

pub returns : goal.returns
returns c =
    let s = c.args.self.now in
    let first = ap (λ l. punctuate (place_of s.place) (lex between l)) c.in-Some.ensures ∙ ends-array_at (place_of s.place) _ (closes s.place c.in_default-place.not-AfterComma) in
    on_match _ _ _ c.pass_value.result (λ passed. ap after_end_array first ∙ ap (λ l. Some l) passed) c.pass_value.ensures.passed
