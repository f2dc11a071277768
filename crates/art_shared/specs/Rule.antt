-- The rule of a table: its words, and the views that its seats have, are a world in which the invariant holds. The views are those of
-- passes apart, wherever each of them stands; what a seat was told is a beginning of the one history; all commands of it have keys of
-- the schema; and the anchor's counter is never below the one at which the table was opened, and is just that one until some pass makes
-- a step.
use Rattle.art_key.specs.Spelling.{IsKeyOf}
use Rattle.std.specs.Prelude.{◌≡◌, ◌*◌, ◌<◌, ◌≤◌, ℕ, List, [], ◌∷◌, ◌++◌, map, length, ◌==◌, if◌then◌else◌, Option, Some, None, ⊤}
use Rattle.atomic_table.specs.Table.{State}
use Rattle.art_cell.specs.declared.cells.Cell.TheVariants as cell
use Rattle.art_step.specs.declared.views.Event.{Event}
use Rattle.art_step.specs.declared.views.View.{View}
use Rattle.art_step.specs.Histories.{AreAdmitted, StartsWith}
use Rattle.art_step.specs.Sound.{IsSound}
use Rattle.art_step.specs.Views.{Member, Views}
use Rattle.art_step.specs.WordPlaces.{word_count}
use Rattle.art_step.specs.WordRows.{memory_of}
use Rattle.art_shared.specs.declared.law.Basis.{Basis}
use Rattle.art_shared.specs.declared.law.Known.{Known}

-- the words of a table, and what each of its seats knows
abbrev pub Words : Type 0
Words = State (Unit {0}) Known

abbrev pub joined : {A : Type 0} → List (List A) → List A
joined [] = []
joined (x ∷ xs) = x ++ joined xs

-- the views of all seats, one after another
abbrev pub all_views : List Known → List View
all_views ks = joined (map (λ (k : Known). k.views) ks)

-- the histories that seats were told
abbrev pub all_told : List Known → List (List Event)
all_told ks = joined (map (λ (k : Known). k.told) ks)

-- the view of the pass, where there is one
abbrev pub find : List View → ℕ → Option View
find [] p = None
find (v ∷ vs) p = if v.pass == p then Some v else find vs p

-- the views of all passes, whatever seats they stand in
abbrev pub seated : List Known → Views
seated ks p = find (all_views ks) p

abbrev pub passes_of : List View → List ℕ
passes_of vs = map (λ (v : View). v.pass) vs

-- nothing stands twice in the list
abbrev pub Apart : {A : Type 0} → List A → Type 0
Apart [] = ⊤
Apart (x ∷ xs) = (Member x xs → ⊥) × Apart xs

-- the events are of passes with numbers below this one
abbrev pub AreBelow : ℕ → List Event → Type 0
AreBelow n log = (e : Event) → Member e log → e.pass < n

-- the version word of the anchor shows that its counter began at start: the counter, which is all but the word's two lowest bits, is
-- start or more; and as long as no pass has made any step, the word is just that of start, neither locked nor obsolete. So words that
-- begin at a lower counter break the first, and words that begin at a higher one the second
pub record BeginsAt (start : ℕ) (word : ℕ) (f : Views) : Type 0 where
  pub least : 4 * start ≤ word
  pub exactly : ((p : ℕ) (v : View) → f p ≡ Some v → v.steps ≡ 0) → word ≡ 4 * start

-- the rule of the table
pub record Kept (b : Basis) (s : Words) : Type 0 where
  pub long : length s.words ≡ word_count b.sizes
  pub sound : IsSound b.sizes (memory_of b.sizes s.words) (seated s.views)
  pub apart : Apart (passes_of (all_views s.views))
  pub told : (h : List Event) → Member h (all_told s.views) → StartsWith sound.log h
  pub typed : AreAdmitted (IsKeyOf b.schema) sound.log
  pub begins : BeginsAt b.counter_start ((memory_of b.sizes s.words).version cell.Anchor) (seated s.views)
