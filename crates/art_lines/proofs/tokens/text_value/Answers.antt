use Rattle.std.proofs.Common.{◌≡◌, ◌∙◌, ◌≤◌, Err, Ok, Result, Some, ap, length, refl, subst, sym}
use Rattle.std.proofs.lemmas.Option.{none-some, same_Some}
use Rattle.std.proofs.lemmas.Result.{MatchResult-at_ok}
use Rattle.std.specs.Result.{result_ok}
use Rattle.art_lines.proofs.TokenLaws.{value_said-text}
use Rattle.art_lines.proofs.tokens.text_value.Goals as goal

is_ok : {T E : Type 0} (r : Result T E) (x : T) → Some x ≡ result_ok r → r ≡ Ok x
is_ok (Ok y) x is = ap Ok (sym (same_Some x y is))
is_ok (Err e) x is = absurd (none-some x (sym is))

pub returns : goal.returns
returns c place =
    let read = c.in_ok-text in
    let text = MatchResult-at_ok _ _ read.text (is_ok c.from_utf8.result read.text read.ensures.value) c.from_utf8.ensures.cases in
    let fits = subst (λ s. length s ≤ 24) text.0 (c.in_ok-new.ensures.fits.0 refl) in
    value_said-text place c.args.text.now c.in_ok-new.field-0 fits (c.in_ok-new.ensures.value ∙ text.0)
