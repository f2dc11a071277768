-- Histories of a map from byte keys to values.
use Rattle.std.specs.Prelude.{◌≡◌, ℕ, ◌+◌, List, [], ◌∷◌, ◌++◌, ◌==◌, if◌then◌else◌, Option, Some, None, ⊤}
use Rattle.std.specs.FinMap.{get, insert, remove, empty}
use Rattle.art_step.specs.declared.deeds.Act.{Act}
use Rattle.art_step.specs.declared.deeds.Act.TheVariants.{Insert, Remove, Get}
use Rattle.art_model.specs.declared.commands.Answer.{Answer}
use Rattle.art_model.specs.declared.commands.Answer.TheVariants.{Inserted, Present, Removed, Absent, Found}
use Rattle.art_tree.specs.declared.bounds.Bound.{Bound}
use Rattle.arrayvec.specs.ArrayVec.{ArrayVec}
use Rattle.art_step.specs.Deeds.{IsAdmitted, bound_of}
use Rattle.art_step.specs.declared.deeds.Deed.{Deed}
use Rattle.art_step.specs.declared.deeds.Deed.TheVariants.{Done, Look}
use Rattle.art_step.specs.declared.views.Event.{Event}
use Rattle.art_step.specs.Views.{Member}
use Rattle.art_tree.specs.Looks.{InRange}
use Rattle.art_tree.specs.Rows.{ByteMap}
use Rattle.art_tree.specs.Tree.{Begins}

-- ---- what a map answers

-- this where the key has a value, and else that
abbrev pub by_value : {A : Type 0} → Option ℕ → (ℕ → A) → A → A
by_value (Some v) there absent = there v
by_value None there absent = absent

-- the map's answer, and the map after it
abbrev pub answer : ByteMap → Act → Answer
answer m (Insert k v) = by_value (get m k.items) Present Inserted
answer m (Remove k) = by_value (get m k.items) Removed Absent
answer m (Get k) = by_value (get m k.items) Found Absent

abbrev pub map_after : ByteMap → Act → ByteMap
map_after m (Insert k v) = by_value (get m k.items) (λ _. m) (insert m k.items v)
map_after m (Remove k) = by_value (get m k.items) (λ _. remove m k.items) m
map_after m (Get k) = m

-- the rows of the map in the range are this one, or none
abbrev pub OnlyRow : ByteMap → List ℕ → Bound → Option (ArrayVec ℕ × ℕ) → Type 0
OnlyRow m lo hi None = (k : List ℕ) (v : ℕ) → get m k ≡ Some v → InRange lo hi k → ⊥
OnlyRow m lo hi (Some row) = (get m row.0.items ≡ Some row.1) × InRange lo hi row.0.items ×
    ((k : List ℕ) (v : ℕ) → get m k ≡ Some v → InRange lo hi k → k ≡ row.0.items)

-- ---- events

-- what an event says is what the map answers
abbrev pub IsAnswered : ByteMap → Deed → Type 0
IsAnswered m (Done a r) = r ≡ answer m a
IsAnswered m (Look lo hi o) = OnlyRow m lo.items (bound_of hi) o

-- the map after an event: looks change nothing
abbrev pub becomes : ByteMap → Deed → ByteMap
becomes m (Done a r) = map_after m a
becomes m (Look lo hi o) = m

abbrev pub event : ℕ → Deed → Event
event p x = record { pass = p; what = x }

abbrev pub run : ByteMap → List Event → ByteMap
run m [] = m
run m (e ∷ es) = run (becomes m e.what) es

-- the map after all events of a history, from the empty one
abbrev pub replay : List Event → ByteMap
replay log = run empty log

abbrev pub IsLegalFrom : ByteMap → List Event → Type 0
IsLegalFrom m [] = ⊤
IsLegalFrom m (e ∷ es) = IsAnswered m e.what × IsLegalFrom (becomes m e.what) es

-- each event says what the map answers after the events before it
abbrev pub IsLegal : List Event → Type 0
IsLegal log = IsLegalFrom empty log

-- the places of a pass's events in a history, from a place on
abbrev pub places_from : ℕ → ℕ → List Event → List ℕ
places_from p k [] = []
places_from p k (e ∷ es) = if e.pass == p then k ∷ places_from p (k + 1) es else places_from p (k + 1) es

abbrev pub places : ℕ → List Event → List ℕ
places p log = places_from p 0 log

-- the history begins with these events
abbrev pub StartsWith : List Event → List Event → Type 0
StartsWith log seen = (rest : List Event) × (log ≡ seen ++ rest)

-- all commands of the history have keys that are admitted
abbrev pub AreAdmitted : (List ℕ → Type 0) → List Event → Type 0
AreAdmitted A log = (e : Event) → Member e log → IsAdmitted A e.what

-- no admitted key begins another
abbrev pub AreApart : (List ℕ → Type 0) → Type 0
AreApart A = (k j : List ℕ) → A k → A j → Begins k j → k ≡ j
