-- What a removal does, how many children a node keeps, and what comes in its place.
use Rattle.std.specs.Prelude.{◌≡◌, ◌≢◌, ℕ, ◌+◌, ◌<◌, ◌≤◌, List, ◌∷◌, ◌++◌, length, Some, ⊤, None}
use Rattle.art_cell.specs.Bodies.{IsBody}
use Rattle.art_cell.specs.Reads.{word_of}
use Rattle.art_cell.specs.Words.{child_of, count_of, places}
use Rattle.art_cell.specs.declared.cells.Body.{Body}
use Rattle.art_cell.specs.declared.cells.Node.{Node}
use Rattle.art_cell.specs.declared.cells.Layout.TheVariants.{Node4}
use Rattle.art_model.specs.declared.commands.Answer.TheVariants.{Removed}
use Rattle.art_node.specs.Sizes.{smaller}
use Rattle.art_path.specs.declared.prefixes.Parts.{Parts}
use Rattle.art_plan.specs.Puts.{HasChild}
use Rattle.art_plan.specs.declared.changes.Site.{Site}
use Rattle.art_plan.specs.declared.changes.Site.TheVariants.{Root, Slot}
use Rattle.art_plan.specs.declared.remove.OldLeaf.{OldLeaf}
use Rattle.art_step.specs.declared.deeds.Act.TheVariants.{Remove}
use Rattle.art_step.specs.declared.deeds.Deed.{Deed}
use Rattle.art_step.specs.declared.deeds.Deed.TheVariants.{Done}
use Rattle.art_step.specs.declared.actions.Effects.{Effects}
use Rattle.art_cell.specs.Children.{child_word}
use Rattle.art_cell.specs.declared.cells.Link.TheVariants.{Leaf as leaf}

-- the leaf's key goes, which had the leaf's value
abbrev pub removed : OldLeaf → Deed
removed old = Done (Remove old.key) (Removed old.value)

-- what its removal does: the leaf leaves, and then what has these child words, in this order
abbrev pub remove_effects : OldLeaf → List ℕ → Effects
remove_effects old words = record {
  deed = removed old;
  leaf = None;
  unlinked = record { items = child_word (leaf old.number) ∷ words };
}

-- ---- how many children a node keeps

-- a node of the site has two children at least when one goes
abbrev pub KeepsTwo : Site → Type 0
KeepsTwo (Root x) = ⊤
KeepsTwo (Slot x body byte) = 3 ≤ count_of (word_of body.now)

-- the byte has a child, beside which there are two at least, and the next smaller layout has places for those
pub record IsSparse (body : Body) (byte : ℕ) : Type 0 where
  pub there : HasChild body byte
  pub layout : body.layout ≢ Node4
  pub two : 3 ≤ count_of (word_of body)
  pub few : count_of (word_of body) ≤ places (smaller body.layout) + 1

-- the node has two children and no more: one at a byte, and the other beside it, at another byte
pub record HasPair (body : Body) (byte word beside other : ℕ) : Type 0 where
  pub meaning : IsBody body.layout (word_of body)
  pub two : count_of (word_of body) ≡ 2
  pub low : byte < 256
  pub one : child_of body.layout (word_of body) byte ≡ Some word
  pub low_beside : beside < 256
  pub another : child_of body.layout (word_of body) beside ≡ Some other
  pub apart : beside ≢ byte

-- ---- what comes

-- the node of the next smaller layout with this number
abbrev pub smaller_node : Body → ℕ → Node
smaller_node body number = record { layout = smaller body.layout; number = number }

-- the parts of a prefix, one after another
abbrev pub joined : Parts → List ℕ
joined parts = parts.front.items ++ parts.byte ∷ parts.rest.items

-- they are more bytes than a prefix can have
abbrev pub IsTooLong : Parts → Type 0
IsTooLong parts = 64 < length parts.front.items + 1 + length parts.rest.items
