-- What a node on the way of a key shows of it.
use Rattle.std.proofs.Common.{◌≡◌, ℕ, ◌+◌, ◌/◌, ◌%◌, ◌<◌, ◌≤◌, List, [], ◌∷◌, ◌++◌, length, get_or, take, drop, map, Some, None, inr, refl, sym, ap, ◌∙◌, subst, arith, add-one, append_assoc, length-append}
use Rattle.std.specs.List.{range_with_len}
use Rattle.std.proofs.Math.Seq.{take-add, take-suc, take-length}
use Rattle.std.proofs.lemmas.List.{take-append-drop, length-take-le}
use Rattle.std.proofs.lemmas.List.FromFn.{length-map-range_with_len, take-map-range_with_len}
use Rattle.art_cell.specs.declared.cells.Node.{Node}
use Rattle.art_cell.specs.declared.cells.Cell.TheVariants as cell
use Rattle.art_cell.specs.declared.cells.Link.{Link}
use Rattle.art_cell.specs.declared.cells.Link.TheVariants.{Node as node}
use Rattle.art_cell.specs.Bodies.{IsBody}
use Rattle.art_cell.specs.Children.{link_of}
use Rattle.art_cell.specs.Words.{Words, packed, child_of, nonzero}
use Rattle.art_find.specs.Verdicts.{HasOverlap, IsFree}
use Rattle.art_find.specs.Ways.{HasHeader, IsPastPrefix, count_in}
use Rattle.art_node.proofs.ChildWords.{nonzero_link}
use Rattle.art_path.specs.Compared.{AreSame}
use Rattle.art_path.proofs.PackedTexts.{same_packed, packed_same_in}
use Rattle.art_step.specs.Knowledge.{IsShape}
use Rattle.art_step.specs.Shows.{HasChild, HasValue}
use Rattle.art_step.proofs.Shows.{absent_value, child_on, prefix_on}
use Rattle.art_step.specs.declared.views.Sizes.{Sizes}
use Rattle.art_tree.specs.Heaps.{Cells, heap_of}
use Rattle.art_tree.specs.Tree.{Begins, StandsAt, down, path_past}
use Rattle.art_tree.proofs.Full.{row_below_cell}
use Rattle.art_tree.proofs.Paths.{begins_more, begins_trans, length_past}
use Rattle.art_tree.proofs.TreeLaws.{descends}

-- the first bytes of a key begin it
pub begins_take : (n : ℕ) (k : List ℕ) → Begins (take n k) k
begins_take n k = (drop n k, take-append-drop n k)

-- where a key ends within the path of a node and its prefix, a row below the node goes on
row_past : (z : Sizes) (s : Cells) (n : Node) (k p : List ℕ) → IsShape z s → StandsAt (heap_of s) (node n) p → Begins k (p ++ (heap_of s).prefix n) → HasOverlap s k
row_past z s n k p shape at f =
    let h = heap_of s in
    let two = shape.tree.splits n p at in
    let r = row_below_cell h two.2 (path_past h n p two.0) shape.tree (down two.0 at two.5 refl) in
    record {
      key = r.key;
      value = r.value;
      row = r.row;
      other = λ same.
          absurd (omega (arith, ap length same, ap length r.begins.1, length-append (path_past h n p two.0) r.begins.0, length_past h n p two.0, ap length f.1, length-append k f.0, length-append p (h.prefix n)));
      overlaps = inr (begins_trans k (p ++ h.prefix n) r.key f (begins_more (p ++ h.prefix n) (two.0 ∷ []) r.key r.begins));
    }

-- ---- its prefix

module _ (z : Sizes) (s : Cells) (n : Node) (k : List ℕ) (depth header : ℕ) (shape : IsShape z s) (on : HasHeader s n k depth header) (deep : depth ≤ length k) where
  abbrev w : Words
  w = s (cell.Node n)

  abbrev p : List ℕ
  p = take depth k

  abbrev count : ℕ
  count = count_in header

  prefix_counted : (heap_of s).prefix n ≡ map (packed w 2) (range_with_len 0 count)
  prefix_counted = prefix_on z s n p shape on.at ∙ ap (λ (x : ℕ). map (packed w 2) (range_with_len 0 (x / 512 % 128))) on.is_header

  long : length p ≡ depth
  long = length-take-le depth k deep

  -- its path with its prefix is shorter than a key can be
  pub not_torn : depth + count < 64
  not_torn =
      let len : length ((heap_of s).prefix n) ≡ count = ap length prefix_counted ∙ length-map-range_with_len (packed w 2) 0 count in
      let short = shape.tree.short n p on.at in
      omega (arith, len, short, long)

  -- where the key has the bytes of the prefix, it begins with both
  front_is : AreSame (packed w 2) count k depth → p ++ (heap_of s).prefix n ≡ take (depth + count) k
  front_is are =
      ap (λ (l : List ℕ). p ++ l) (prefix_counted ∙ same_packed w 2 count k depth are)
      ∙ sym (take-add depth count k)

  pub past_prefix : AreSame (packed w 2) count k depth → IsPastPrefix s n k (depth + count) header
  past_prefix are = record { place = p; at = on.at; is = front_is are; is_header = on.is_header }

  -- the key ends within the prefix, or with it
  pub ends_within : (at : ℕ) → at ≤ count → depth + at ≡ length k → AreSame (packed w 2) at k depth → HasOverlap s k
  ends_within at few ends are =
      let q = (heap_of s).prefix n in
      let front : take at q ≡ take at (drop depth k) =
      ap (take at) prefix_counted ∙ take-map-range_with_len (packed w 2) 0 count at few ∙ same_packed w 2 at k depth are in
      let whole : p ++ take at q ≡ k =
      ap (λ (l : List ℕ). p ++ l) front ∙ sym (take-add depth at k) ∙ ap (λ (i : ℕ). take i k) ends ∙ take-length k in
      row_past z s n k p shape on.at
      (drop at q, ap (λ (l : List ℕ). l ++ drop at q) (sym whole) ∙ append_assoc p (take at q) (drop at q) ∙ ap (λ (l : List ℕ). p ++ l) (take-append-drop at q))

  -- the key differs from it
  pub differs : (AreSame (packed w 2) count k depth → ⊥) → HasValue s k None
  differs apart = absent_value s k ((descends (heap_of s) k shape.tree).differs n p on.at (begins_take depth k)
      (λ f. apart (subst (λ (d : ℕ). AreSame (packed w 2) count k d) long (packed_same_in w 2 count k p f.0 (ap (λ (l : List ℕ). (p ++ l) ++ f.0) (sym prefix_counted) ∙ f.1)))))

-- ---- its child

module _ (z : Sizes) (s : Cells) (n : Node) (k : List ℕ) (depth header : ℕ) (shape : IsShape z s) (on : IsPastPrefix s n k depth header) where
  pub body_of : IsBody n.layout (s (cell.Node n))
  body_of = (shape.nodes n on.place on.at).body

  module _ (deep : depth < length k) where
    abbrev b : ℕ
    b = get_or k depth 0

    next_path : path_past (heap_of s) n on.place b ≡ take (depth + 1) k
    next_path =
        ap (λ (l : List ℕ). l ++ b ∷ []) on.is
        ∙ sym (take-suc k depth 0 deep)
        ∙ ap (λ (i : ℕ). take i k) (sym (add-one depth))

    pub free_byte : (heap_of s).child n b ≡ None → HasValue s k None
    free_byte none = absent_value s k ((descends (heap_of s) k shape.tree).free n on.place b on.at (subst (λ (l : List ℕ). Begins l k) (sym next_path) (begins_take (depth + 1) k)) none)

    module _ (small : b < 256) where
      child_is : (place word : ℕ) → child_of n.layout (s (cell.Node n)) b ≡ nonzero (s (cell.Node n) place) → s (cell.Node n) place ≡ word → (heap_of s).child n b ≡ link_of word
      child_is place word tells is = child_on s n b (nonzero (s (cell.Node n) place)) small tells ∙ nonzero_link (s (cell.Node n) place) ∙ ap link_of is

      pub child_there : (place word : ℕ) (d : Link) → child_of n.layout (s (cell.Node n)) b ≡ nonzero (s (cell.Node n) place) → s (cell.Node n) place ≡ word → link_of word ≡ Some d → HasChild s (cell.Node n) d (take (depth + 1) k)
      child_there place word d tells is names =
          let child = child_is place word tells is ∙ names in
          record { path = on.place; there = on.at; byte = b; names = child; at = down b on.at child (sym next_path) }

      pub no_child : child_of n.layout (s (cell.Node n)) b ≡ None → IsFree s n k depth header
      no_child none = record { past = on; free = child_on s n b None small none }

      pub names_none : (place word : ℕ) → child_of n.layout (s (cell.Node n)) b ≡ nonzero (s (cell.Node n) place) → s (cell.Node n) place ≡ word → link_of word ≡ None → IsFree s n k depth header
      names_none place word tells is none = record { past = on; free = child_is place word tells is ∙ none }
