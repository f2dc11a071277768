-- Marks, by which a pass learns what another had seen.
use Rattle.std.specs.Prelude.{◌≡◌, ◌+◌, ◌++◌, ℕ, List}
use Rattle.art_key.specs.Histories.{IsLegal}
use Rattle.art_key.specs.declared.events.Event.{Event}
use Rattle.art_shared.specs.Marks as shared
use Rattle.art_table.specs.Tables.{IsPassOf, number_of, own_of, schema_in, seen_by, view_of}
use Rattle.art_table.specs.declared.marked.Mark.{Mark}
use Rattle.art_table.specs.declared.passes.Pass.{Pass}
use Rattle.art_table.specs.declared.tables.Table.{Table}
use Rattle.art_typed.specs.Typed.{typed}

-- the history begins with these events
abbrev pub StartsWith : List Event → List Event → Type 0
StartsWith log seen = (rest : List Event) × (log ≡ seen ++ rest)

-- what the pass of the mark had seen
abbrev pub history_of : Table → Mark → List Event
history_of t k = typed (schema_in t) (shared.history_of k.mark)

-- the mark is one of the table
abbrev pub IsMarkOf : Table → Mark → Type 0
IsMarkOf t k = shared.IsMarkOf t.shared k.mark

-- the pass looked so often, and made no other step, and no event; what it has seen grew, and is legal
pub record HasLooked (t : Table) (looks : ℕ) (p q : Pass) : Type 0 where
  pub pass : IsPassOf t q
  pub only : view_of q ≡ record (view_of p) { steps = (view_of p).steps + looks; seen = (view_of q).seen }
  pub number : number_of q ≡ number_of p
  pub grows : StartsWith (seen_by t q) (seen_by t p)
  pub legal : IsLegal (schema_in t) (seen_by t q)
  pub own : own_of q ≡ own_of p

-- two passes looked twice each: each has seen what the other had seen, and the other what the one has
pub record HasMet (t : Table) (p q p' q' : Pass) : Type 0 where
  pub one : HasLooked t 2 p q
  pub other : HasLooked t 2 p' q'
  pub learns : StartsWith (seen_by t q) (seen_by t p')
  pub tells : StartsWith (seen_by t q') (seen_by t p)
  pub begins : StartsWith (seen_by t q') (seen_by t q)
