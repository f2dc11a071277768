use Rattle.std.proofs.Common.{◌∙◌, length, sym}
use Rattle.std.proofs.lemmas.Bool.{eqb-true}
use Rattle.std.proofs.lemmas.List.{nil_from_length}
use Rattle.art_lines.proofs.CursorLaws.{none_left}
use Rattle.art_lines.proofs.cursors.Cursor.is_at_end.Goals as goal

pub returns-in-AfterValue : goal.returns-in-AfterValue
returns-in-AfterValue c ended =
    let bytes = c.args.self.now.rest.now in
    rw (c.in-AfterValue.is, nil_from_length bytes (eqb-true (length bytes) 0 (sym c.is_empty.ensures ∙ ended))) none_left
