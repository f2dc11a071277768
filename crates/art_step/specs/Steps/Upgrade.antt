-- Upgrade: a stamped cell is locked and held, if its version word is unchanged. A changed word is that of a check. Where the
-- stamped counter is at its end, which is looked at first, no step is made.
use Rattle.std.specs.Prelude.{ℕ, ◌≡◌, Some, List, ◌<◌, ◌*◌, length, ◌+◌, ◌∷◌, false, ◌≢◌, ◌≤◌, Result, Ok, Err}
use Rattle.art_cell.specs.declared.cells.Cell.{Cell}
use Rattle.art_cell.specs.declared.cells.Link.{Link}
use Rattle.art_step.specs.Effects.{LocksStamped}
use Rattle.art_step.specs.Sound.{KeepsSound}
use Rattle.art_step.specs.Views.{IsInLimbo, IsNotInHand, Member, cell_named, note_of, last_counter, MayLock, Memory, size_of, words_in, found_version, Views, SetsView}
use Rattle.art_step.specs.declared.faults.UpgradeFault.{UpgradeFault}
use Rattle.art_step.specs.declared.held.Held.{Held}
use Rattle.art_step.specs.declared.views.Fact.TheVariants.{Starts, Word}
use Rattle.art_step.specs.declared.views.Holding.{Holding}
use Rattle.art_step.specs.declared.views.Sizes.{Sizes}
use Rattle.art_step.specs.declared.views.Stamp.{Stamp}
use Rattle.art_step.specs.declared.views.View.{View}
use Rattle.art_step.specs.declared.faults.UpgradeFault.TheVariants as fault
use Rattle.art_step.specs.Steps.Check as check
use Rattle.art_step.specs.Tokens.{cell_held}

-- nothing that it holds was claimed: claims come after all upgrades of a change, which can so be given up where one fails
abbrev pub HasClaimedNone : View → Type 0
HasClaimedNone v = (h : Holding) → Member h v.held → (x : ℕ) × (h.stamped ≡ Some x)

pub record May (v : View) (x : Stamp) : Type 0 where
  pub stamp : Member x v.stamps
  pub path : (q : List ℕ) × Member (note_of x (Starts q)) v.notes
  pub limit : x.version < 4 * last_counter
  pub early : MayLock v
  pub unclaimed : HasClaimedNone v

-- the list has the words of the cell
pub record IsCopy (m : Memory) (c : Cell) (ws : List ℕ) : Type 0 where
  pub long : length ws ≡ size_of c
  pub words : m.words c ≡ words_in ws

abbrev pub view_after : View → Stamp → List ℕ → View
view_after v x ws = record v {
  steps = v.steps + 1;
  held = record { cell = x.cell; stamped = Some x.version; old = ws; new = ws } ∷ v.held;
  committed = false;
  found = found_version v x.cell x.version;
}

pub record Step (z : Sizes) (p : ℕ) (v : View) (m : Memory) (f : Views) (m' : Memory) (f' : Views) : Type 0 where
  pub stamp : Stamp
  pub copy : List ℕ
  pub may : May v stamp
  pub copied : IsCopy m stamp.cell copy
  pub locks : LocksStamped stamp m f m' f'
  pub view : SetsView f p (view_after v stamp copy) f'

-- what was noted of the cell's words under the stamp is in the list
abbrev pub AgreesWithNotes : View → Stamp → List ℕ → Type 0
AgreesWithNotes v x ws = (i value : ℕ) → Member (note_of x (Word i value)) v.notes → words_in ws i ≡ value

-- the words of the cell stand in a list, where the place of the version word has 0; a cell that was clear is that of no number in
-- the pass's hand or limbo
pub record Locks (v w : View) (x : Stamp) : Type 0 where
  pub limit : x.version < 4 * last_counter
  pub words : List ℕ
  pub long : length words ≡ size_of x.cell
  pub version : words_in words 0 ≡ 0
  pub agrees : AgreesWithNotes v x words
  pub apart : (d : Link) → cell_named d ≡ x.cell → IsNotInHand v d × (IsInLimbo v d → ⊥)
  pub is : w ≡ view_after v x words

abbrev pub Refused : View → View → Stamp → UpgradeFault → Type 0
Refused v w x (fault.Changed c) = (c.cell ≡ x.cell) × (c.seen ≡ x.version) × (c.found ≢ c.seen) × check.IsChanged v w x c.found ×
    (x.version < 4 * last_counter)
Refused v w x (fault.Exhausted c) = (c ≡ x.cell) × (4 * last_counter ≤ x.version) × (w ≡ v)

abbrev pub Outcome : View → View → Stamp → Result Held UpgradeFault → Type 0
Outcome v w x (Ok h) = (cell_held h ≡ x.cell) × Locks v w x
Outcome v w x (Err e) = Refused v w x e

abbrev pub Law : Type 0
Law = KeepsSound Step
