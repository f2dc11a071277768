-- A change puts only words that change: another word was read at each place.
use Rattle.std.specs.Prelude.{◌≡◌, ◌≢◌, ℕ, List, [], ◌∷◌, ◌++◌, Option, Some, ⊤}
use Rattle.art_cell.specs.Children.{child_word}
use Rattle.art_cell.specs.Reads.{word_of, word_read}
use Rattle.art_cell.specs.declared.cells.Body.{Body}
use Rattle.art_cell.specs.declared.cells.Link.{Link}
use Rattle.art_cell.specs.declared.cells.Write.{Write}
use Rattle.art_node.specs.Prefixes.{IsPrefixPlan}
use Rattle.art_plan.specs.Changes.{target_at}
use Rattle.art_plan.specs.Puts.{IsDropPlan, IsSitePlan, puts_of}
use Rattle.art_plan.specs.declared.changes.Change.{Change}
use Rattle.art_plan.specs.declared.changes.Put.{Put}
use Rattle.art_plan.specs.declared.changes.Target.{Target}
use Rattle.art_plan.specs.declared.changes.Site.{Site}
use Rattle.art_step.specs.Views.{Member}
use Rattle.art_step.specs.declared.views.Stamp.{Stamp}

-- another word than the put's was read at its place
abbrev pub TakesAnother : List (Option ℕ) → Put → Type 0
TakesAnother reads p = (word : ℕ) × (word_read reads p.place ≡ Some word) × (word ≢ p.value)

-- no place of a target is put twice
abbrev pub EachOnce : List Put → Type 0
EachOnce [] = ⊤
EachOnce (p ∷ ps) = ((q : Put) → Member q ps → q.target ≡ p.target → q.place ≢ p.place) × EachOnce ps

-- each word that is put takes the place of another one, which was read under the stamp of its target, and no place is put twice; `read`
-- says what was read under a stamp
pub record PutsChanges (read : Stamp → List (Option ℕ) → Type 0) (c : Change) : Type 0 where
  pub another : (p : Put) → Member p c.puts.items
      → (x : Target) × (reads : List (Option ℕ)) × (target_at c p.target ≡ Some x) × read x.stamp reads × TakesAnother reads p
  pub once : EachOnce c.puts.items

-- ---- what each case puts

-- the words that give the site this child, and no others
abbrev pub PutsChild : Site → Link → List Put → Type 0
PutsChild site d ps = (writes : List Write) × IsSitePlan site (child_word d) writes × (ps ≡ puts_of 0 writes)

-- those that take its child away
abbrev pub PutsNone : Site → List Put → Type 0
PutsNone site ps = (writes : List Write) × IsDropPlan site writes × (ps ≡ puts_of 0 writes)

-- those that give it this child, and then those that give the node with the body, the target with this index, this prefix
abbrev pub PutsPrefix : Site → Link → ℕ → Body → List ℕ → List Put → Type 0
PutsPrefix site d i body prefix ps = (writes others : List Write) × IsSitePlan site (child_word d) writes
    × IsPrefixPlan body.layout (word_of body) others prefix × (ps ≡ puts_of 0 writes ++ puts_of i others)
