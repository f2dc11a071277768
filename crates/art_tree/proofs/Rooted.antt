-- A row stands below the root exactly where its leaf is linked.
use Rattle.std.proofs.Common.{◌≡◌, ◌↔◌, ℕ, List, [], refl, sym, ◌∙◌, subst}
use Rattle.art_cell.specs.declared.cells.Link.{Link}
use Rattle.art_cell.specs.declared.cells.Link.TheVariants.{Leaf as leaf}
use Rattle.art_tree.specs.Tree.{Heap, path_past, StandsAt, top, down, Begins, Row, IsTree}
use Rattle.art_tree.specs.Below.{StandsBelow, itself, under, StandsBelowRoot}
use Rattle.art_tree.proofs.Paths.{Under, here, go, from_root}

below_from : (h : Heap) (i : ℕ) (c d : Link) (p r k : List ℕ) (v : ℕ) → d ≡ leaf i → h.key i ≡ k → h.value i ≡ v → Begins r k → Under h c p d r → StandsBelow h c p k v
below_from h i c d p r k v is key value f (here ec ep) = itself i (ec ∙ is) key value (subst (λ z. Begins z k) (sym ep) f)
below_from h i c d p r k v is key value f (go {n = n} {e = e} b first u) = under n b e refl first (below_from h i e d (path_past h n p b) r k v is key value f u)

row_from : (h : Heap) (c : Link) (p k : List ℕ) (v : ℕ) → StandsAt h c p → StandsBelow h c p k v → Row h k v
row_from h c p k v at (itself n is key value f) = record { number = n; path = p; at = subst (λ z. StandsAt h z p) is at; key = key; value = value }
row_from h c p k v at (under n b d is child u) = row_from h d (path_past h n p b) k v (down b (subst (λ z. StandsAt h z p) is at) child refl) u

pub row_below : (h : Heap) (k : List ℕ) (v : ℕ) → IsTree h → Row h k v ↔ StandsBelowRoot h k v
row_below h k v s = (
  (λ o. let f = from_root h (leaf o.number) o.path o.at in
      (f.link, f.is, below_from h o.number f.link (leaf o.number) [] o.path k v refl o.key o.value (subst (λ z. Begins o.path z) o.key (s.spelled o.number o.path o.at)) f.under)),
  (λ b. row_from h b.0 [] k v (top b.1 refl) b.2),
)
