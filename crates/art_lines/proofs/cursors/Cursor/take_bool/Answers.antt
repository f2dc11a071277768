use Rattle.std.proofs.Common.{◌≡◌, ◌∷◌, true, refl, ap, ◌∙◌, arith}
use Rattle.json.specs.Lex.{between, lex, may_begin, punctuate}
use Rattle.json.specs.Token.{boolean}
use Rattle.art_lines.specs.Cursors.{place_of}
use Rattle.art_lines.proofs.CursorLaws.{bool_at}
use Rattle.art_lines.proofs.cursors.Cursor.take_bool.Goals as goal

pub returns-then-pass_value : goal.returns-then-pass_value
returns-then-pass_value c =
    let s = c.args.self.now in
    let may : may_begin (place_of s.place) ≡ true = grind arith in
    let passed = c.if-pass_value.ensures in
    ap (λ l. punctuate (place_of s.place) (lex between l)) c.in_ok-truth.ensures ∙ bool_at (place_of s.place) c.in_ok-truth.truth _ may (passed.ended refl) ∙ ap (λ l. boolean c.in_ok-truth.truth ∷ l) passed.passed
