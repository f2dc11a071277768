-- What is known of cells, where most words stay.
use Rattle.std.proofs.Common.{◌≡◌, ℕ, List, [], sym, refl, ap, ◌∙◌, subst}
use Rattle.std.specs.Prelude.{Some}
use Rattle.art_cell.specs.declared.cells.Cell.{Cell}
use Rattle.art_cell.specs.declared.cells.Cell.TheVariants as cell
use Rattle.art_cell.specs.declared.cells.Link.{Link}
use Rattle.art_cell.specs.declared.cells.Link.TheVariants.{Leaf as leaf}
use Rattle.art_step.specs.declared.views.Fact.{Fact}
use Rattle.art_step.specs.declared.views.Fact.TheVariants.{Starts, Word, LeafWord}
use Rattle.art_step.specs.declared.views.Stamp.{Stamp}
use Rattle.art_step.specs.declared.views.View.{View}
use Rattle.art_cell.specs.Children.{link_of}
use Rattle.art_tree.specs.Heaps.{Cells, node_child, heap_of}
use Rattle.art_step.specs.Knowledge.{CellAt, child_at, Holds, HoldsAll}
use Rattle.art_step.specs.Sound.{Vouched}
use Rattle.art_tree.specs.Tree.{path_past, StandsAt, top, down}
use Rattle.art_step.specs.Views.{Memory}
use Rattle.art_cell.specs.Words.{Words}

-- the child of a cell is told by its words
pub same_child : (s s' : Cells) (c : Cell) (b : ℕ) → s' c ≡ s c → child_at (heap_of s') c b ≡ child_at (heap_of s) c b
unfolding heap_of
same_child s s' cell.Anchor b e = ap (λ (w : Words). link_of (w 1)) e
same_child s s' (cell.Leaf l) b e = refl
same_child s s' (cell.Node n) b e = ap (λ (w : Words). node_child n.layout w b) e

-- a child of a cell that a path leads to is linked
pub child_linked : (s : Cells) (c : Cell) (p : List ℕ) (b : ℕ) (d : Link) → CellAt s c p → child_at (heap_of s) c b ≡ Some d → (r : List ℕ) × StandsAt (heap_of s) d r
child_linked s cell.Anchor p b d at is = ([], top is refl)
child_linked s (cell.Leaf l) p b d at is = absurd (cc)
child_linked s (cell.Node n) p b d at is = (path_past (heap_of s) n p b, down b at is refl)

-- the leaves that are linked have the same words
abbrev pub SameLeafWords : Cells → Cells → Type 0
SameLeafWords s s' = (l : ℕ) (r : List ℕ) → StandsAt (heap_of s) (leaf l) r → s' (cell.Leaf l) ≡ s (cell.Leaf l)

-- a cell whose words and path stay keeps the facts of it
pub holds_on : (s s' : Cells) (c : Cell) (x : Fact) → s' c ≡ s c → ((p : List ℕ) → CellAt s c p → CellAt s' c p) → SameLeafWords s s' → Holds s c x → Holds s' c x
holds_on s s' c (Starts p) e at leaves h = at p h
holds_on s s' c (Word i x) e at leaves h = ap (λ (w : Words). w i) e ∙ h
holds_on s s' c (LeafWord l i x) e at leaves h =
    let k = h.0 in
    let there = child_linked s c k.path k.byte (leaf l) k.there k.names in
    (record { path = k.path; there = at k.path k.there; byte = k.byte; names = same_child s s' c k.byte e ∙ k.names }, ap (λ (w : Words). w i) (leaves l there.0 there.1) ∙ h.1)

-- while the version word is the stamped one, what was noted under the stamp holds
pub holds_all : (m : Memory) (s : Cells) (v : View) (x : Stamp) → Vouched m s v → m.version x.cell ≡ x.version → HoldsAll v x s
holds_all m s v x k is y i same =
    subst (λ (a : Stamp). Holds s a.cell y.fact) same ((k.notes y i).same (subst (λ (a : Stamp). m.version a.cell ≡ a.version) (sym same) is))
