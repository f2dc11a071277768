use Rattle.std.proofs.Common.{refl, sym, ap, ◌∙◌}
use Rattle.json.specs.Lex.{between, lex}
use Rattle.art_lines.proofs.CursorLaws.{lex-blank}
use Rattle.art_lines.proofs.cursors.after_blanks.Goals as goal

pub loop-behind-preserved : goal.loop-behind-preserved
loop-behind-preserved c =
    let at_blank = c.in-Some.ensures in
    let before = c.loop-behind.invariant in
    record { same = sym (lex-blank _) ∙ ap (lex between) (sym at_blank) ∙ before.same; ended = λ _. before.ended (rw at_blank refl) }
