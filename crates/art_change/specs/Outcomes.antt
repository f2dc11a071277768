-- How a call ends by how its machine did.
use Rattle.std.specs.Prelude.{Option, Some, None}
use Rattle.art_change.specs.declared.outcomes.Outcome.{Outcome}
use Rattle.art_change.specs.declared.outcomes.Outcome.TheVariants as outcome
use Rattle.art_change.specs.declared.writes.WriteOutcome.{WriteOutcome}
use Rattle.art_change.specs.declared.writes.WriteOutcome.TheVariants as write
use Rattle.art_look.specs.declared.looks.Seen.{Seen}
use Rattle.art_look.specs.declared.walks.Outcome.{Outcome as SeekOutcome}
use Rattle.art_look.specs.declared.walks.Outcome.TheVariants as seek

abbrev pub of_write : WriteOutcome → Outcome
of_write write.New = outcome.New
of_write (write.Present value) = outcome.Present value
of_write (write.Gone value) = outcome.Gone value
of_write write.Absent = outcome.Absent
of_write (write.Full pool) = outcome.Full pool
of_write (write.Exhausted c) = outcome.Exhausted c
of_write write.Overlaps = outcome.Overlaps
of_write write.Busy = outcome.Busy
of_write (write.Crowded b) = outcome.Crowded b

-- with what a look has seen
abbrev pub of_seek : SeekOutcome → Option Seen → Outcome
of_seek (seek.Found value) seen = outcome.Found value
of_seek seek.Absent seen = outcome.Absent
of_seek seek.Seen (Some seen) = outcome.Seen seen
of_seek seek.Seen None = outcome.Busy
of_seek seek.Busy seen = outcome.Busy

-- a look that was made at once, which has seen this, or used all of its turns
abbrev pub of_look : Option Seen → Outcome
of_look (Some seen) = outcome.Seen seen
of_look None = outcome.Busy
