use Rattle.std.proofs.Common.{◌≡◌, true, arith}
use Rattle.json.specs.Lex.{may_begin}
use Rattle.art_lines.specs.Cursors.{place_of}
use Rattle.art_lines.proofs.CursorLaws.{begins-array_at}
use Rattle.art_lines.proofs.cursors.Cursor.take_begin_array.Goals as goal

pub returns : goal.returns
returns c = λ _.
    let may : may_begin (place_of c.args.self.now.place) ≡ true = grind arith in
    rw (c.in-Some.ensures, c.new.ensures) (begins-array_at _ _ may)
