-- What is written where a child word stands, and a change with all its parts.
use Rattle.std.specs.Prelude.{◌≡◌, ℕ, List, [], ◌∷◌, map, Option, Some, None, ⊤}
use Rattle.art_cell.specs.Bodies.{IsBody, IsFull}
use Rattle.art_cell.specs.Reads.{IsPlan, with_child, without_child, word_of}
use Rattle.art_cell.specs.Words.{child_of}
use Rattle.art_cell.specs.declared.cells.Body.{Body}
use Rattle.art_cell.specs.declared.cells.Write.{Write}
use Rattle.art_plan.specs.declared.changes.Change.{Change}
use Rattle.art_plan.specs.declared.changes.Put.{Put}
use Rattle.art_plan.specs.declared.changes.Target.{Target}
use Rattle.art_plan.specs.declared.changes.Site.{Site}
use Rattle.art_plan.specs.declared.changes.Site.TheVariants.{Root, Slot}
use Rattle.art_step.specs.declared.deeds.Deed.{Deed}

-- ---- the words of a site

-- the byte has no child, and the node has a place for one more
pub record HasRoom (body : Body) (byte : ℕ) : Type 0 where
  pub meaning : IsBody body.layout (word_of body)
  pub free : child_of body.layout (word_of body) byte ≡ None
  pub room : IsFull body.layout (word_of body) → ⊥

-- the byte has a child
pub record HasChild (body : Body) (byte : ℕ) : Type 0 where
  pub meaning : IsBody body.layout (word_of body)
  pub child : ℕ
  pub there : child_of body.layout (word_of body) byte ≡ Some child

-- the byte has no child, and the node no place for one
pub record IsCrowded (body : Body) (byte : ℕ) : Type 0 where
  pub meaning : IsBody body.layout (word_of body)
  pub free : child_of body.layout (word_of body) byte ≡ None
  pub full : IsFull body.layout (word_of body)

-- a child may come to the site; the anchor's word may always be written
abbrev pub IsFree : Site → Type 0
IsFree (Root x) = ⊤
IsFree (Slot x body byte) = HasRoom body.now byte

-- the site has a child
abbrev pub IsTaken : Site → Type 0
IsTaken (Root x) = ⊤
IsTaken (Slot x body byte) = HasChild body.now byte

-- the writes give the site this child word, and no other change
abbrev pub IsSitePlan : Site → ℕ → List Write → Type 0
IsSitePlan (Root x) child writes = writes ≡ record { place = 1; value = child } ∷ []
IsSitePlan (Slot x body byte) child writes =
    IsPlan body.now.layout (word_of body.now) writes (with_child (child_of body.now.layout (word_of body.now)) byte child)

-- the writes take the child of the site away, and make no other change
abbrev pub IsDropPlan : Site → List Write → Type 0
IsDropPlan (Root x) writes = writes ≡ record { place = 1; value = 0 } ∷ []
IsDropPlan (Slot x body byte) writes =
    IsPlan body.now.layout (word_of body.now) writes (without_child (child_of body.now.layout (word_of body.now)) byte)

-- ---- a change

-- the word for the target with an index
abbrev pub put_of : ℕ → Write → Put
put_of i x = record { target = i; place = x.place; value = x.value }

-- the words for it
abbrev pub puts_of : ℕ → List Write → List Put
puts_of i writes = map (put_of i) writes

-- the change that locks these targets, puts these words, has such words planned last, makes the node with the body where a number is
-- given, links the leaf where one is given, unlinks what has these child words, and does the deed
abbrev pub change_of : List Target → List Put → List Write → Option ℕ → Body → Option ℕ → List ℕ → Deed → Change
change_of ts ps ws made body leaf us deed = record {
  targets = record { items = ts };
  puts = record { items = ps };
  writes = record { items = ws };
  node = made;
  body = body;
  copy = None;
  effects = record { deed = deed; leaf = leaf; unlinked = record { items = us } };
}
