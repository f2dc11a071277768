use Rattle.std.proofs.Common.{◌≡◌, ◌∷◌, ◌++◌, true, refl, sym, ap, ◌∙◌, arith, take-append-drop}
use Rattle.json.specs.Lex.{between, lex, may_begin, punctuate}
use Rattle.json.specs.Print.{IsNumber}
use Rattle.json.specs.Token.{number}
use Rattle.art_lines.specs.Cursors.{place_of}
use Rattle.art_lines.proofs.CursorLaws.{number_at}
use Rattle.art_lines.proofs.cursors.Cursor.take_number.Goals as goal

pub returns-then-pass_value : goal.returns-then-pass_value
returns-then-pass_value c =
    let s = c.args.self.now in
    let parts = c.split_at.ensures in
    let text = c.split_at.result.0.now in
    let may : may_begin (place_of s.place) ≡ true = grind arith in
    let is : IsNumber text = rw parts.front c.in_ok-number_in.ensures.1 in
    let whole : s.rest.now ≡ text ++ c.split_at.result.1.now = rw (parts.front, parts.back) (sym (take-append-drop _ s.rest.now)) in
    let passed = c.if-pass_value.ensures in
    ap (λ l. punctuate (place_of s.place) (lex between l)) whole ∙ number_at (place_of s.place) text _ may is (passed.ended refl) ∙ ap (λ l. number text ∷ l) passed.passed
