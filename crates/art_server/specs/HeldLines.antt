-- How a reader of lines holds them.
use Rattle.std.specs.Prelude.{◌≡◌, ◌≤◌, List, ℕ, ◌++◌, length, take, slice_range}
use Rattle.art_server.specs.Lines.{LinesRead}
use Rattle.art_server.specs.Streams.{whole_lines, last_part}
use Rattle.art_server.specs.declared.lines.Lines.TheInside.{Inside}

-- what was read and not yet looked at
abbrev pub ahead : Inside → List ℕ
ahead l = slice_range l.bytes l.seen l.end

abbrev pub lines_read : Inside → LinesRead
lines_read l = record {
  taken = l.before.value ++ ahead l;
  given = length (whole_lines l.before.value);
  line = slice_range l.bytes l.line.from l.line.to;
}

-- the front of the line under way is held as far as a line is given, and what was read behind it
pub record HoldsLine (l : Inside) : Type 0 where
  pub line : l.line.from ≤ l.line.to
  pub line_within : l.line.to ≤ 8193
  pub begun : l.start ≤ l.seen
  pub ordered : l.seen ≤ l.end
  pub within : l.end ≤ 8193
  pub kept : slice_range l.bytes l.start l.seen ≡ take 4097 (last_part l.before.value)
