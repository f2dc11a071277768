use Rattle.std.proofs.Common.{sym, ap, ◌∙◌}
use Rattle.json.specs.Lex.{after_comma, after_value, begins_colon, between, lex, punctuate}
use Rattle.art_lines.proofs.CursorLaws.{no_colon-comma, passes-comma}
use Rattle.art_lines.proofs.cursors.Cursor.pass_value.Goals as goal

pub returns-in-Some-clause-passed : goal.returns-in-Some-clause-passed
returns-in-Some-clause-passed c =
    ap (punctuate after_value) (sym c.after_blanks-next.ensures.same ∙ ap (lex between) c.in-Some.ensures) ∙ passes-comma _ ∙ ap (punctuate after_comma) (sym c.after_blanks.ensures.same)

pub returns-in-Some-clause-no_key : goal.returns-in-Some-clause-no_key
returns-in-Some-clause-no_key c = λ _. ap begins_colon (sym c.after_blanks-next.ensures.same ∙ ap (lex between) c.in-Some.ensures) ∙ no_colon-comma _
