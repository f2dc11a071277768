-- The law of the end of a scan.
use Rattle.std.specs.Prelude.{◌≡◌, List}
use Rattle.art_key.specs.declared.bounds.Bound.{Bound}
use Rattle.art_key.specs.declared.columns.Column.{Column}
use Rattle.art_key.specs.Histories.{StandsIn}
use Rattle.art_key.specs.Spelling.{spelling}
use Rattle.art_model.specs.Rows.{Tuple}
use Rattle.art_scan.specs.Tiles.{EndsRange}
use Rattle.art_step.specs.Deeds.{bound_of}
use Rattle.art_tree.specs.Looks.{after}

-- the bound just above the key of hi, which is above all texts that begin with it, is the end of a scan up to hi
abbrev pub AfterEndsRange : Type 0
AfterEndsRange = (schema : List Column) (hi : Tuple) (end : Bound) → StandsIn schema hi
    → bound_of end ≡ after (spelling schema hi.items) → EndsRange schema hi end
