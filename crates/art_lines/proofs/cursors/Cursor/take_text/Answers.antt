use Rattle.std.proofs.Common.{◌≡◌, ◌∷◌, take, true, refl, sym, ap, ◌∙◌, arith}
use Rattle.json.specs.Lex.{between, lex, may_begin, punctuate}
use Rattle.json.specs.Token.{string}
use Rattle.art_lines.specs.Cursors.{place_of}
use Rattle.art_lines.proofs.CursorLaws.{text_at}
use Rattle.art_lines.proofs.cursors.Cursor.take_text.Goals as goal

pub returns-then-pass_value : goal.returns-then-pass_value
returns-then-pass_value c =
    let s = c.args.self.now in
    let parts = c.split_at.ensures in
    let may : may_begin (place_of s.place) ≡ true = grind arith in
    let passed = c.if-pass_value.ensures in
    let closed = sym parts.back ∙ c.in-Some-after.ensures in
    let first = text_at (place_of s.place) _ c.in-Some.quoted.now _ may c.plain_in.ensures.count closed (passed.no_key refl) in
    rw parts.front (ap (λ l. punctuate (place_of s.place) (lex between l)) c.in-Some.ensures ∙ first ∙ ap (λ l. string (take c.plain_in.result c.in-Some.quoted.now) ∷ l) passed.passed)
