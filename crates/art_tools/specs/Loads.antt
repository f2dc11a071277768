-- What `load` does: commands of many threads on a table of its own.
use Rattle.std.specs.Prelude.{◌≡◌, ◌⊎◌, ℕ, List, [], ◌∷◌, ◌++◌, codes, decimal, fold, vec_len, Option, Some, Ok}
use Rattle.std.specs.Io.KnownBytes.{Appends}
use Rattle.art_key.specs.Schemas.{schema_of}
use Rattle.art_key.specs.declared.columns.Column.{Column}
use Rattle.art_load.specs.Closes.{IsLoaded}
use Rattle.art_load.specs.declared.counts.Counts.{Counts}
use Rattle.art_server.specs.ArtTable.Opening.{IsOpened}
use Rattle.art_server.specs.ArtTable.declared.closing.Closed.{Closed}
use Rattle.art_server.specs.ArtTable.declared.passes.Pass.{Pass}
use Rattle.art_server.specs.ArtTable.declared.tables.Table.{Table}
use Rattle.art_tools.specs.Tables.{Prints, of_passes}
use Rattle.art_tools.specs.declared.run_faults.RunFault.{RunFault}
use Rattle.art_tools.specs.declared.run_faults.RunFault.TheVariants.{NoMemory}
use Rattle.art_tools.specs.declared.settings.LoadSettings.{LoadSettings}

-- a word with a blank, and a number
abbrev pub count_line : List ℕ → ℕ → List ℕ
count_line word count = word ++ decimal count ++ 10 ∷ []

-- what is printed of the counts, and of the number of rows
abbrev pub count_lines : Counts → ℕ → List (List ℕ)
count_lines counts rows =
    count_line (codes "inserted ") counts.inserted ∷ count_line (codes "present ") counts.present
    ∷ count_line (codes "removed ") counts.removed ∷ count_line (codes "absent ") counts.absent
    ∷ count_line (codes "found ") counts.found ∷ count_line (codes "refused ") counts.refused
    ∷ count_line (codes "rows ") rows ∷ []

-- one line after another
abbrev pub load_text : Counts → ℕ → List ℕ
load_text counts rows = fold (λ text line. text ++ line) [] (count_lines counts rows)

-- An empty table of one column, `u64`, and these sizes was loaded by all its passes, and closed. All its commands are of one history, which
-- leaves the rows of the close (`IsLoaded`). The counts and the number of these rows were printed.
pub record HasLoaded (asked : LoadSettings) (held held_after : Option (List ℕ)) (told : Option RunFault) : Type 0 where
  pub columns : List Column
  pub table : Table
  pub passes : List Pass
  pub back : List Pass
  pub counts : Counts
  pub closed : Closed
  pub schema : schema_of (codes "u64") ≡ Ok columns
  pub opened : IsOpened columns (of_passes asked.threads asked.sizes) table passes
  pub loaded : IsLoaded table asked.seed asked.keys asked.ops passes counts back closed
  pub prints : Prints (load_text counts (vec_len closed.rows)) held held_after told

-- there was no table, no thread, or no memory to close the table: nothing was printed
pub record HasNotLoaded (held held_after : Option (List ℕ)) (told : Option RunFault) : Type 0 where
  pub unwritten : Appends held held_after []
  pub why : told ≡ Some NoMemory

abbrev pub RunsLoad : LoadSettings → (held held_after : Option (List ℕ)) → Option RunFault → Type 0
RunsLoad asked held held_after told = HasLoaded asked held held_after told ⊎ HasNotLoaded held held_after told
