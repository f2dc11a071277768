-- What stands beside an attempt of a write.
use Rattle.std.specs.Prelude.{ℕ, Option}
use Rattle.std.specs.Option.{option_and_then, unwrap_or}
use Rattle.art_cell.specs.declared.cells.Layout.{Layout}
use Rattle.art_epoch.specs.Stocks.{node_in, without_all}
use Rattle.art_epoch.specs.declared.stocks.Stock.{Stock}
use Rattle.art_plan.specs.Apply.{linked}
use Rattle.art_plan.specs.declared.changes.Change.{Change}

-- the number of a node of the layout, and 0 where none is in hand or none is needed
abbrev pub number_for : Stock → Option Layout → ℕ
number_for s o = unwrap_or (option_and_then (node_in s) o) 0

-- what the change linked left the stock
abbrev pub spent_by : Change → Stock → Stock
spent_by c s = without_all (linked c) s
