-- What a look does to where it stands and to the row that it is given.
use Rattle.std.specs.Prelude.{◌≡◌, ℕ, Bool, true, false, Option, Some, None, Ok, Err}
use Rattle.art_key.specs.declared.bounds.Bound.{Bound}
use Rattle.art_model.specs.declared.rows.Row.{Row}
use Rattle.art_table.specs.Calls.{Ends}
use Rattle.art_table.specs.declared.faults.Fault.{Fault}
use Rattle.art_table.specs.declared.jobs.Job.TheVariants.{Look}
use Rattle.art_table.specs.declared.jobs.Outcome.TheVariants.{Seen as saw}
use Rattle.art_table.specs.declared.passes.Pass.{Pass}
use Rattle.art_table.specs.declared.tables.Table.{Table}

-- the row that was found, by whether one was
abbrev pub found_row : Bool → Row → Option Row
found_row true row = Some row
found_row false row = None

-- A look by the pass p, from a bound on, before another, was answered: it has seen the range from there up to `to` and its row, which
-- it wrote over the one that it was given, or none, and its pass is q. Where it found none, that row is as it was.
pub record Advances (t : Table) (from end : Bound) (turns : ℕ) (p : Pass) (given : Row) (q : Pass) (to : Bound) (found : Bool)
    (row : Row) : Type 0 where
  pub ends : Ends t (Look from end) turns p (Ok (saw (record { lo = from; hi = to; row = found_row found row }))) q
  pub kept : found ≡ false → row ≡ given

-- It was refused: it stands where it stood, and the row is as it was.
pub record IsRefused (t : Table) (from end : Bound) (turns : ℕ) (p : Pass) (given : Row) (fault : Fault) (q : Pass) (to : Bound)
    (row : Row) : Type 0 where
  pub ends : Ends t (Look from end) turns p (Err fault) q
  pub stays : to ≡ from
  pub same : row ≡ given
