-- How many rows a history leaves.
use Rattle.std.specs.Prelude.{◌≡◌, ◌+◌, List, length}
use Rattle.std.specs.List.{sum_by}
use Rattle.art_key.specs.Histories.{IsLegal, replay}
use Rattle.art_key.specs.declared.columns.Column.{Column}
use Rattle.art_key.specs.declared.events.Event.{Event}
use Rattle.art_load.specs.Counts.{inserted_in, removed_in}
use Rattle.art_load.specs.Own.{told_by}

-- the rows that a legal history leaves, with the events that removed one, are as many as the events that inserted one
abbrev pub RowsLeft : Type 0
RowsLeft = (schema : List Column) (log : List Event) → IsLegal schema log
    → length (replay schema log) + sum_by (told_by removed_in) log ≡ sum_by (told_by inserted_in) log
