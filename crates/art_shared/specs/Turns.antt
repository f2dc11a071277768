-- A step of a pass at a table, as its seat is told of it.
use Rattle.art_key.specs.Spelling.{IsKeyOf}
use Rattle.std.specs.Prelude.{◌≡◌, ◌⊎◌, ℕ, Some, ◌^◌, ◌<◌, List, [], ◌∷◌, ◌++◌, length, get_or, slice_set, true}
use Rattle.art_key.specs.declared.columns.Column.{Column}
use Rattle.art_step.specs.Deeds.{IsAdmitted}
use mathlib.Core.Option.{some}
use lib.ListN.{get_elem?}
use Rattle.art_step.specs.declared.views.Event.{Event}
use Rattle.art_step.specs.declared.views.Pin.{Pin}
use Rattle.art_step.specs.declared.views.View.{View}
use Rattle.art_step.specs.Effects.{Instant}
use Rattle.art_step.specs.Histories.{AreAdmitted, StartsWith}
use Rattle.art_step.specs.Sound.{IsSound}
use Rattle.art_step.specs.Steps.{AtStep}
use Rattle.art_step.specs.Steps.Commit.{AreStanding}
use Rattle.art_step.specs.Views.{Member, Memory, Views}
use Rattle.art_step.specs.WordPlaces.{word_count}
use Rattle.art_step.specs.WordRows.{memory_of}
use Rattle.art_step.proofs.Moves.{Moves}
use Rattle.art_shared.specs.declared.law.Basis.{Basis}
use Rattle.art_shared.specs.declared.law.Known.{Known}
use Rattle.art_shared.specs.Passes.{all_placed, has_numbers, view_in}
use Rattle.art_shared.specs.Rule.{AreBelow, Kept, Words, seated}

-- the table is so just before a step of a seat and just after it, where what the seat knows goes from k to k'; and the rule holds before
-- and after
pub record Moment (b : Basis) (k k' : Known) (m : Memory) (f : Views) (m' : Memory) (f' : Views) : Type 0 where
  pub before : Words
  pub after : Words
  pub kept : Kept b before
  pub kept_after : Kept b after
  pub words : m ≡ memory_of b.sizes before.words
  pub views : f ≡ seated before.views
  pub words_after : m' ≡ memory_of b.sizes after.words
  pub views_after : f' ≡ seated after.views
  pub seat : ℕ
  pub here : get_elem? before.views seat ≡ some k
  pub here_after : get_elem? after.views seat ≡ some k'

-- the seat's one pass made one step, by which its view changed by the row, and at which it was so
pub record Turn (b : Basis) (k k' : Known) (so : Instant) (Row : View → View → Type 0) : Type 0 where
  pub made : AtStep b.sizes (view_in k) (view_in k') (Moment b k k') so
  pub row : Row (view_in k) (view_in k')
  pub one : length k'.views ≡ 1
  pub pass : (view_in k').pass ≡ (view_in k).pass
  pub placed : all_placed b.sizes (view_in k').stamps ≡ true
  pub numbers : has_numbers b.sizes (view_in k') ≡ true
  pub typed : AreAdmitted (IsKeyOf b.schema) (view_in k').seen
  pub below : AreBelow b.sizes.passes (view_in k').seen
  pub basis : k'.basis ≡ k.basis
  pub told : k'.told ≡ k.told

-- ---- what a step may rest on, and has to show

-- the words and views of a table, at which a seat of one pass knows this
pub record Stands (b : Basis) (k : Known) (ws : List ℕ) (f : Views) : Type 0 where
  pub long : length ws ≡ word_count b.sizes
  pub sound : IsSound b.sizes (memory_of b.sizes ws) f
  pub here : f (view_in k).pass ≡ Some (view_in k)
  pub pins : (ks : List Pin) × AreStanding f ks
  pub told : (h : List Event) → Member h k.told → StartsWith sound.log h

-- from v to w the pass made no event of its own, or one with a key of the schema, which is the last that it has seen
abbrev pub AddsTyped : List Column → View → View → Type 0
AddsTyped schema v w = (w.own ≡ v.own) ⊎ ((log : List Event) × (e : Event) × (w.seen ≡ log ++ e ∷ []) × IsAdmitted (IsKeyOf schema) e.what)

-- whatever the table is, where the word at the place becomes this other one, the pass makes a step of one kind; and its event, if it
-- makes one, has a key of the schema
pub record MayTurn (b : Basis) (k : Known) (place : ℕ) (change : ℕ → ℕ) (Row : ℕ → View → View → Type 0) (so : ℕ → Instant) : Type 0 where
  pub moves : (ws : List ℕ) (f : Views) → Stands b k ws f → get_or ws place 0 < 2 ^ 64 →
      Moves b.sizes ws f (view_in k).pass (view_in k) (slice_set ws place (change (get_or ws place 0))) (Row (get_or ws place 0))
      (so (get_or ws place 0))
  pub adds : (n : ℕ) (w : View) → Row n (view_in k) w → AddsTyped b.schema (view_in k) w
