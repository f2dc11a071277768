-- The refusal of a line that says no command.
use Rattle.art_lines.specs.declared.lines.LineFault.{LineFault}
use Rattle.art_lines.specs.declared.lines.LineFault.TheVariants as line
use Rattle.art_refusal.specs.Refusals.{value_refusal}
use Rattle.art_refusal.specs.declared.refusals.Refusal.{Refusal}
use Rattle.art_refusal.specs.declared.refusals.Refusal.TheVariants.{BadLine, LineTooLong, BadCommand, NoMemory}

abbrev pub line_refusal : LineFault → Refusal
line_refusal line.BadLine = BadLine
line_refusal line.LineTooLong = LineTooLong
line_refusal line.BadCommand = BadCommand
line_refusal (line.Value fault) = value_refusal fault
line_refusal line.NoMemory = NoMemory
