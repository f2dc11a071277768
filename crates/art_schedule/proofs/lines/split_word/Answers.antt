use Rattle.std.proofs.Common.{sym}
use Rattle.art_schedule.proofs.LineLaws.{first_word-some, first_word-none}
use Rattle.art_schedule.proofs.lines.split_word.Goals as goal

pub returns-in-Some-clause-word : goal.returns-in-Some-clause-word
returns-in-Some-clause-word c = first_word-some c.args.line.now c.in-Some.blank (sym c.in-Some.ensures.place)

pub returns-in-None-clause-word : goal.returns-in-None-clause-word
returns-in-None-clause-word c = first_word-none c.args.line.now (sym c.in-None.ensures.place)
