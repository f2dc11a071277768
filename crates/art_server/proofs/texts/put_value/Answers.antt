use Rattle.std.proofs.Common.{◌≡◌, ℕ, List, [], ◌∷◌, ◌++◌, drop, decimal, arith, sym, ap, ◌∙◌, append_assoc}
use Rattle.std.proofs.lemmas.List.{drop_all}
use Rattle.std.proofs.lemmas.Fmt.{length-decimal-le}
use Rattle.art_server.proofs.texts.put_value.Goals as goal

pub write_digits-digits-requires : goal.write_digits-digits-requires
write_digits-digits-requires c =
    let few = length-decimal-le 20 c.args.value (omega arith) (omega arith) c.ranges.value.fits in
    (omega arith, omega arith)

pub put_before-requires-clause-fits : goal.put_before-requires-clause-fits
put_before-requires-clause-fits c =
    let few = length-decimal-le 20 c.args.value (omega arith) (omega arith) c.ranges.value.fits in
    omega arith

pub returns-clause-text : goal.returns-clause-text
returns-clause-text c =
    let word = c.args.word.now in
    let digits = decimal c.args.value in
    let none : drop 64 c.args.room.now ≡ [] = drop_all 64 c.args.room.now (omega arith) in
    let end = c.put_before-end.ensures.written ∙ ap (λ (l : List ℕ). 93 ∷ 10 ∷ l) none in
    c.put_before.ensures.written
    ∙ ap (λ (l : List ℕ). word ++ l) (c.write_digits-digits.ensures.written ∙ ap (λ (l : List ℕ). digits ++ l) end)
    ∙ sym (append_assoc word digits (93 ∷ 10 ∷ []))
