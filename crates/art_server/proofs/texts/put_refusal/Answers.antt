use Rattle.std.proofs.Common.{◌≡◌, ℕ, List, [], ◌∷◌, ◌++◌, drop, length, codes, decimal, arith, sym, ap, ◌∙◌}
use Rattle.std.proofs.lemmas.Fmt.{length-decimal-le}
use Rattle.std.proofs.lemmas.List.{drop_all}
use Rattle.art_scan.specs.ArtRefusal.Refusals.{refusal_name, refusal_number}
use Rattle.art_server.proofs.TextLaws.{length-refusal_name, text_of_reply-refused}
use Rattle.art_server.proofs.texts.put_refusal.Goals as goal

pub write_digits-digits-requires : goal.write_digits-digits-requires
write_digits-digits-requires c =
    let few = length-decimal-le 3 c.from.result (omega arith) (omega arith) (omega arith) in
    let short = length-refusal_name c.args.refusal in
    let same : length c.name.result.now ≡ length (refusal_name c.args.refusal) = ap (length {A = ℕ}) c.name.ensures in
    (omega arith, omega arith)

pub put_before-requires-clause-fits : goal.put_before-requires-clause-fits
put_before-requires-clause-fits c =
    let few = length-decimal-le 3 c.from.result (omega arith) (omega arith) (omega arith) in
    let short = length-refusal_name c.args.refusal in
    let same : length c.name.result.now ≡ length (refusal_name c.args.refusal) = ap (length {A = ℕ}) c.name.ensures in
    omega arith

pub returns-clause-text : goal.returns-clause-text
returns-clause-text c =
    let word = codes "[\"refused\"," in
    let refusal = c.args.refusal in
    let none : drop 64 c.args.room.now ≡ [] = drop_all 64 c.args.room.now (omega arith) in
    let end = c.put_before-end.ensures.written ∙ ap (λ (l : List ℕ). 34 ∷ 93 ∷ 10 ∷ l) none in
    let name : c.as_bytes.result.now ≡ refusal_name refusal = c.as_bytes.ensures.value ∙ c.name.ensures in
    let number : c.from.result ≡ refusal_number refusal = c.from.ensures ∙ c.number.ensures in
    c.put_before.ensures.written
    ∙ ap (λ (l : List ℕ). word ++ l) (c.write_digits-digits.ensures.written
    ∙ ap (λ (n : ℕ). decimal n ++ drop c.put_before-comma.result c.put_before-comma.new.room) number
    ∙ ap (λ (l : List ℕ). decimal (refusal_number refusal) ++ l) (c.put_before-comma.ensures.written
    ∙ ap (λ (l : List ℕ). 44 ∷ 34 ∷ l) (c.put_before-name.ensures.written
    ∙ ap (λ (l : List ℕ). l ++ drop c.put_before-end.result c.put_before-end.new.room) name
    ∙ ap (λ (l : List ℕ). refusal_name refusal ++ l) end)))
    ∙ sym (text_of_reply-refused refusal)
