-- Check: a version word is compared with the stamped one. Where it is unchanged, what was noted under the stamp holds at this
-- step, and an event may be made. Where it is changed, the stamp goes.
use Rattle.std.specs.Prelude.{Option, None, ⊤, Some, List, ℕ, ◌≡◌, ◌≤◌, ◌+◌, ◌++◌, ◌∷◌, [], length, ◌↔◌, ◌≢◌, Result, Ok, Err}
use Rattle.art_step.specs.Effects.{Instant, FindsUnchanged, FindsVersion}
use Rattle.art_step.specs.Events.{SeesEvent}
use Rattle.art_step.specs.Histories.{event}
use Rattle.art_step.specs.Knowledge.{DecidesAnswer, CellAt, KnowsPath, IsShape, HoldsAll}
use Rattle.art_step.specs.Sound.{IsSound, KeepsSound}
use Rattle.art_step.specs.Views.{Member, found_version, Memory, Views, SetsView, note_of}
use Rattle.art_step.specs.declared.faults.Changed.{Changed}
use Rattle.art_step.specs.declared.views.Event.{Event}
use Rattle.art_step.specs.declared.views.Fact.TheVariants.{Starts}
use Rattle.art_step.specs.declared.views.Note.{Note}
use Rattle.art_step.specs.declared.views.Sizes.{Sizes}
use Rattle.art_step.specs.declared.views.Stamp.{Stamp}
use Rattle.art_step.specs.declared.views.View.{View}
use Rattle.art_step.specs.declared.deeds.Deed.{Deed}
use Rattle.art_tree.specs.Heaps.{Cells}

-- an event only where the stamp's notes decide its answer
abbrev pub MayTell : Sizes → View → Stamp → Option Deed → Type 0
MayTell z v x None = ⊤
MayTell z v x (Some what) = DecidesAnswer z v x what

pub record May (z : Sizes) (v : View) (x : Stamp) (o : Option Deed) : Type 0 where
  pub stamp : Member x v.stamps
  pub tells : MayTell z v x o

-- ---- an unchanged word

-- the notes are paths that lead to stamped cells in the tree s
abbrev pub ArePaths : Cells → View → List Note → Type 0
ArePaths s v ys = (y : Note) → Member y ys → Member y.stamp v.stamps × ((q : List ℕ) × (y.fact ≡ Starts q) × CellAt s y.stamp.cell q)

-- the notes stand, the stamped cells gain their paths, and the stamps and notes are copied
abbrev pub view_unchanged : View → Stamp → List Note → View
view_unchanged v x ys = record v {
  steps = v.steps + 1;
  notes = ys ++ v.notes;
  checked = record { stamps = v.stamps; notes = ys ++ v.notes; step = v.steps + 1 };
  found = found_version v x.cell x.version;
}

-- the history grows by an event, if there is one
abbrev pub with_event : View → List Event → Option Deed → View
with_event v log None = v
with_event v log (Some what) = record v { seen = log ++ event v.pass what ∷ []; own = v.own ++ length log ∷ [] }

-- stamped cells may gain their paths in the tree s, and the history may grow by an event
pub record UnchangedStep (z : Sizes) (p : ℕ) (v : View) (m : Memory) (f : Views) (m' : Memory) (f' : Views) (log : List Event)
    (s : Cells) : Type 0 where
  pub stamp : Stamp
  pub paths : List Note
  pub event : Option Deed
  pub may : May z v stamp event
  pub found : m.version stamp.cell ≡ stamp.version
  pub led : ArePaths s v paths
  pub words : m' ≡ m
  pub view : SetsView f p (with_event (view_unchanged v stamp paths) log event) f'

-- stamped cells gain their paths, those to which the notes lead among them; the notes hold of a tree that stands at this step; no
-- stamp of the cell is above its word, which is the stamped one; and an event is made, if one was decided
pub record Unchanged (z : Sizes) (v w : View) (x : Stamp) (o : Option Deed) : Type 0 where
  pub paths : List Note
  pub is : w ≡ record (view_unchanged v x paths) { seen = w.seen; own = w.own }
  pub stamped : (y : Note) → Member y paths → Member y.stamp v.stamps × ((q : List ℕ) × (y.fact ≡ Starts q))
  pub led : (d : Stamp) (q : List ℕ) → Member d v.stamps → KnowsPath z v x d.cell q → Member (note_of d (Starts q)) paths
  pub vouched : (s : Cells) × IsShape z s × HoldsAll v x s
  pub below : (d : Stamp) → Member d v.stamps → d.cell ≡ x.cell → d.version ≤ x.version
  pub told : SeesEvent v w o

-- ---- a changed word, at a check or at an upgrade

-- the stamp goes, with its notes
pub record Without (v : View) (x : Stamp) (xs : List Stamp) (ys : List Note) : Type 0 where
  pub stamps : (a : Stamp) → Member a xs ↔ (Member a v.stamps × (a ≢ x))
  pub notes : (y : Note) → Member y ys ↔ (Member y v.notes × (y.stamp ≢ x))

abbrev pub view_changed : View → Stamp → ℕ → List Stamp → List Note → View
view_changed v x word xs ys = record v {
  steps = v.steps + 1;
  failures = v.failures + 1;
  stamps = xs;
  notes = ys;
  found = found_version v x.cell word;
}

pub record ChangedStep (z : Sizes) (p : ℕ) (v : View) (m : Memory) (f : Views) (m' : Memory) (f' : Views) : Type 0 where
  pub stamp : Stamp
  pub stamps : List Stamp
  pub notes : List Note
  pub has : Member stamp v.stamps
  pub changed : m.version stamp.cell ≢ stamp.version
  pub without : Without v stamp stamps notes
  pub words : m' ≡ m
  pub view : SetsView f p (view_changed v stamp (m.version stamp.cell) stamps notes) f'

pub record IsChanged (v w : View) (x : Stamp) (word : ℕ) : Type 0 where
  pub stamps : List Stamp
  pub notes : List Note
  pub without : Without v x stamps notes
  pub is : w ≡ view_changed v x word stamps notes

-- ---- either

abbrev pub Finds : {A : Type 0} → Sizes → View → Stamp → Result A Changed → Instant
Finds z v x (Ok done) = FindsUnchanged z v x
Finds z v x (Err c) = FindsVersion x.cell c.found

abbrev pub Outcome : {A : Type 0} → Sizes → View → View → Stamp → Option Deed → Result A Changed → Type 0
Outcome z v w x o (Ok done) = Unchanged z v w x o
Outcome z v w x o (Err c) = (c.cell ≡ x.cell) × (c.seen ≡ x.version) × (c.found ≢ c.seen) × IsChanged v w x c.found

-- the history is the one of all views, and the tree that of the logical words
abbrev pub UnchangedLaw : Type 0
UnchangedLaw = (z : Sizes) (p : ℕ) (v : View) (m : Memory) (f : Views) (m' : Memory) (f' : Views) → f p ≡ Some v → (r : IsSound z m f) →
    UnchangedStep z p v m f m' f' r.log r.logical → IsSound z m' f'

-- what was noted under an unchanged stamp holds of the logical words that there are now
abbrev pub VouchLaw : Type 0
VouchLaw = (z : Sizes) (p : ℕ) (v : View) (m : Memory) (f : Views) (x : Stamp) → f p ≡ Some v → (r : IsSound z m f) →
    m.version x.cell ≡ x.version → HoldsAll v x r.logical

abbrev pub ChangedLaw : Type 0
ChangedLaw = KeepsSound ChangedStep
