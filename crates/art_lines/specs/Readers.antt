-- The tuples of the command that a reader of lines read last.
use Rattle.art_model.specs.Rows.{Tuple}
use Rattle.art_lines.specs.declared.lines.LineReader.{LineReader}

-- the one tuple, or the lower one of two
abbrev pub lower_in : LineReader → Tuple
lower_in r = r.lo

-- the upper one, of a command that has two
abbrev pub upper_in : LineReader → Tuple
upper_in r = r.hi
