-- The laws of what a closed table has.
use Rattle.std.specs.Prelude.{◌≡◌, ◌≤◌, List}
use Rattle.art_cell.specs.declared.cells.Pool.{Pool}
use Rattle.art_epoch.specs.declared.limbo.Place.{Place}
use Rattle.art_key.specs.declared.columns.Column.{Column}
use Rattle.art_model.specs.declared.rows.Row.{Row}
use Rattle.art_shared.specs.Closing.{IsAccounted, numbers_of}
use Rattle.art_shared.specs.Rule.{Apart}
use Rattle.art_shared.specs.declared.pass.Pass.{Pass}
use Rattle.art_step.specs.Views.{Memory}
use Rattle.art_step.specs.WordPlaces.{pool_size}
use Rattle.art_step.specs.declared.views.Sizes.{Sizes}
use Rattle.art_tree.specs.Rows.{ByteMap}
use Rattle.art_typed.specs.Typed.{Spells}
use Rattle.art_closed.specs.Counts.{HasWaiting, HaveLimbos, waiting_in_all}

-- a map spells one list of rows
abbrev pub MapsSpellOneList : Type 0
MapsSpellOneList = (schema : List Column) (m : ByteMap) (a b : List Row) → Spells schema m a → Spells schema m b → a ≡ b

-- what waits in the limbos of passes that are all accounted for is the sum of what waits in each, and no more than the pool has
abbrev pub LimbosAddUp : Type 0
LimbosAddUp = (z : Sizes) (m : Memory) (passes : List Pass) (pss : List (List Place)) (pool : Pool) → IsAccounted z m passes → Apart (numbers_of passes) → HaveLimbos passes pss
    → HasWaiting z m pool (waiting_in_all pool pss) passes × (waiting_in_all pool pss ≤ pool_size z pool)
