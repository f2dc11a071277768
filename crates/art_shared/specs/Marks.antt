-- Marks, by which a pass learns what another had seen.
use Rattle.std.specs.Prelude.{◌≡◌, ℕ, ◌+◌, List, [], ◌∷◌, ◌++◌}
use Rattle.art_cell.specs.declared.cells.Cell.TheVariants as cell
use Rattle.art_step.specs.declared.views.Event.{Event}
use Rattle.art_step.specs.declared.views.View.{View}
use Rattle.art_step.specs.Effects.{FindsVersion}
use Rattle.art_step.specs.Histories.{IsLegal, places, StartsWith}
use Rattle.art_step.specs.Steps.{AtStep}
use Rattle.art_step.specs.Steps.Anchor as anchor
use Rattle.art_step.specs.Views.{Member}
use Rattle.art_shared.specs.declared.law.Basis.{Basis}
use Rattle.art_shared.specs.declared.law.Known.{Known}
use Rattle.art_shared.specs.declared.mark.Mark.{Mark}
use Rattle.art_shared.specs.declared.shared.Shared.{Shared}
use Rattle.art_shared.specs.Passes.{first_told, view_in}
use Rattle.art_shared.specs.Tables.{basis_in}
use Rattle.art_shared.specs.Turns.{Moment, Turn}

-- what the pass of the mark had seen
abbrev pub history_of : Mark → List Event
history_of k = first_told k.seat.me.0.told

-- the mark is one of the table
pub record IsMarkOf (t : Shared) (k : Mark) : Type 0 where
  pub table : k.seat.table_id ≡ t.table.shared.table_id
  pub basis : k.seat.me.0.basis ≡ basis_in t

-- a seat was told one history more
abbrev pub told_too : Known → List Event → Known
told_too k h = record { basis = k.basis; views = k.views; told = k.told ++ h ∷ [] }

-- at one instant the pass of the seat looked at the anchor alone
pub record LooksOnce (b : Basis) (k k' : Known) : Type 0 where
  pub found : ℕ
  pub at_once : AtStep b.sizes (view_in k) (view_in k') (Moment b k k') (FindsVersion cell.Anchor found)

-- it sees all of the history then, which begins with each that the seat was told
pub record Sees (told : List (List Event)) (v w : View) : Type 0 where
  pub look : anchor.Outcome v w
  pub begins : (h : List Event) → Member h told → StartsWith w.seen h

-- such a look, at which the version word was n
abbrev pub Looked : Basis → Known → Known → ℕ → Type 0
Looked b k k' n = Turn b k k' (FindsVersion cell.Anchor n) (Sees k.told)

-- ---- passes that meet

-- a pass made two looks, and no other step
pub record LooksTwice (v w : View) : Type 0 where
  pub grows : StartsWith w.seen v.seen
  pub legal : IsLegal w.seen
  pub own : places v.pass w.seen ≡ v.own
  pub is : w ≡ record v { steps = v.steps + 2; seen = w.seen }

-- the view of one pass goes from v to w, and that of another from v' to w': each sees what either had seen, and the other sees what the
-- one sees
pub record Meets (v w v' w' : View) : Type 0 where
  pub one : LooksTwice v w
  pub other : LooksTwice v' w'
  pub learns : StartsWith w.seen v'.seen
  pub tells : StartsWith w'.seen v.seen
  pub begins : StartsWith w'.seen w.seen
