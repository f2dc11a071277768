use Rattle.art_lines.proofs.LineLaws.{line_says-take}
use Rattle.art_lines.proofs.lines.long_lines_are_alike.Goals as goal

pub returns : goal.returns
returns c = line_says-take
