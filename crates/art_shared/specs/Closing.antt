-- The end of a table: one history, the tree with its rows, and where each number is.
use Rattle.art_key.specs.Spelling.{IsKeyOf}
use Rattle.std.specs.Prelude.{◌≡◌, ℕ, List, [], length, map, true, Some}
use Rattle.art_cell.specs.declared.cells.Link.{Link}
use Rattle.art_step.specs.declared.views.Event.{Event}
use Rattle.art_step.specs.declared.views.Sizes.{Sizes}
use Rattle.art_step.specs.declared.views.View.{View}
use Rattle.art_step.specs.Histories.{AreAdmitted, IsLegal, StartsWith, places}
use Rattle.art_step.specs.Sound.{IsSound, ShowsReplay}
use Rattle.art_step.specs.Views.{IsInLimbo, IsNumber, IsOnce, Member, Memory, Views, is_free, links_in_limbo}
use Rattle.art_step.specs.WordPlaces.{word_count}
use Rattle.art_step.specs.WordRows.{memory_of}
use Rattle.art_tree.specs.Heaps.{heap_of}
use Rattle.art_tree.specs.Tree.{StandsAt}
use Rattle.art_shared.specs.declared.law.Basis.{Basis}
use Rattle.art_shared.specs.declared.pass.Pass.{Pass}
use Rattle.art_shared.specs.Rule.{Apart}
use Rattle.art_shared.specs.Tables.{view_of_pass}

-- the numbers of the passes
abbrev pub numbers_of : List Pass → List ℕ
numbers_of passes = map (λ (a : Pass). (view_of_pass a).pass) passes

-- these are as many passes as the table has: all of them
abbrev pub AreAll : Basis → List Pass → Type 0
AreAll b passes = length passes ≡ b.sizes.passes

-- none of them holds a cell
abbrev pub HoldNoCell : List Pass → Type 0
HoldNoCell passes = (a : Pass) → Member a passes → (view_of_pass a).held ≡ []

-- none of them has a number in hand
abbrev pub HaveNoNumber : List Pass → Type 0
HaveNoNumber passes = (a : Pass) → Member a passes → (view_of_pass a).hand ≡ []

-- ---- one history

-- it is legal, of commands with keys of the schema, begins with what each of these passes has seen, and has the events of each at their
-- places; where they are all passes of the table, it has no others
pub record TellsAll (b : Basis) (passes : List Pass) (log : List Event) : Type 0 where
  pub legal : IsLegal log
  pub typed : AreAdmitted (IsKeyOf b.schema) log
  pub begins : (a : Pass) → Member a passes → StartsWith log (view_of_pass a).seen
  pub own : (a : Pass) → Member a passes → places (view_of_pass a).pass log ≡ (view_of_pass a).own
  pub whole : AreAll b passes → (e : Event) → Member e log → (a : Pass) × Member a passes × (e.pass ≡ (view_of_pass a).pass)

-- ---- what became of each number

-- a leaf or a node is linked in the tree, or its number is free, or it is in the limbo of the pass named
pub data Fate : Type 0 where
  Linked : Fate
  Free : Fate
  InLimbo : ℕ → Fate

-- d has this fate, by the words and by what the passes know
abbrev pub HasFate : Memory → List Pass → Link → Fate → Type 0
HasFate m passes d Linked = (r : List ℕ) × StandsAt (heap_of m.words) d r
HasFate m passes d Free = is_free m d ≡ true
HasFate m passes d (InLimbo p) = (a : Pass) × Member a passes × ((view_of_pass a).pass ≡ p) × IsInLimbo (view_of_pass a) d

-- each number has just one fate, what has one is a number, and no limbo has a number twice
pub record IsAccounted (z : Sizes) (m : Memory) (passes : List Pass) : Type 0 where
  pub one : (d : Link) → IsNumber z d → (w : Fate) × HasFate m passes d w × ((u : Fate) → HasFate m passes d u → u ≡ w)
  pub numbers : (d : Link) (w : Fate) → HasFate m passes d w → IsNumber z d
  pub once : (a : Pass) → Member a passes → IsOnce (links_in_limbo (view_of_pass a).limbo)

-- ---- the end

-- there are as many words as the sizes say, and no pass is there twice. The words are those of a sound world, in which each of these
-- passes knows just what it knows; and where they are all passes of the table, there are no others. Its history is that of these
-- passes. Where they are all, and none holds a cell, the words mean a tree with the rows that the history leaves; and where none has
-- a number in hand either, each number is accounted for
pub record Closes (b : Basis) (ws : List ℕ) (passes : List Pass) : Type 0 where
  pub long : length ws ≡ word_count b.sizes
  pub apart : Apart (numbers_of passes)
  pub views : Views
  pub sound : IsSound b.sizes (memory_of b.sizes ws) views
  pub each : (a : Pass) → Member a passes → views (view_of_pass a).pass ≡ Some (view_of_pass a)
  pub whole : AreAll b passes → (p : ℕ) (v : View) → views p ≡ Some v → (a : Pass) × Member a passes × (view_of_pass a ≡ v)
  pub history : TellsAll b passes sound.log
  pub tree : AreAll b passes → HoldNoCell passes → ShowsReplay b.sizes sound.log (memory_of b.sizes ws).words
  pub numbers : AreAll b passes → HoldNoCell passes → HaveNoNumber passes → IsAccounted b.sizes (memory_of b.sizes ws) passes
