-- What was read of a cell on the key's way bears a verdict.
use Rattle.std.proofs.Common.{◌≡◌, ◌≢◌, ℕ, ◌+◌, ◌<◌, ◌≤◌, List, length, take, None, ap, ◌∙◌, arith}
use Rattle.art_cell.specs.declared.cells.Cell.{Cell}
use Rattle.art_cell.specs.declared.cells.Cell.TheVariants as cell
use Rattle.art_cell.specs.declared.cells.Node.{Node}
use Rattle.art_cell.specs.Children.{link_of}
use Rattle.art_cell.specs.Words.{packed}
use Rattle.art_find.specs.Compares.{HasByte, IsWithin}
use Rattle.art_find.specs.Verdicts.{Says}
use Rattle.art_find.specs.Ways.{HasHeader, IsAtLeaf, IsPassed, count_in}
use Rattle.art_find.specs.declared.descents.Verdict.TheVariants.{Found, Empty, LeafMismatch, PrefixMismatch, Overlaps}
use Rattle.art_find.proofs.ComparedWords.{above_other, below_other}
use Rattle.art_find.proofs.LeafKeys.{leaf_ends, leaf_found, leaf_goes_on, leaf_parts}
use Rattle.art_find.proofs.NodeWords.{ends_within}
use Rattle.art_path.specs.Compared.{IsCompared}
use Rattle.art_path.specs.declared.compared.Compared.{Compared}
use Rattle.art_path.specs.declared.compared.Compared.TheVariants.{Same, Below, Above}
use Rattle.art_step.specs.Shows.{Shows}
use Rattle.art_step.specs.declared.views.Sizes.{Sizes}
use Rattle.art_step.specs.declared.views.Stamp.{Stamp}
use Rattle.art_step.specs.declared.views.View.{View}
use Rattle.art_tree.specs.Heaps.{Cells}
use Rattle.art_tree.proofs.Meanings.{words_mean}

-- all of a node's prefix was compared with the key's next bytes
pub record PrefixRead (s : Cells) (n : Node) (k : List ℕ) (depth header : ℕ) (r : Compared) : Type 0 where
  pub on : HasHeader s n k depth header
  pub compared : IsCompared (packed (s (cell.Node n)) 2) (count_in header) k depth r

-- all of a leaf's key was compared with the key
pub record KeyRead (s : Cells) (c : Cell) (l : ℕ) (k : List ℕ) (depth value count : ℕ) (r : Compared) (byte : ℕ) : Type 0 where
  pub leaf : IsAtLeaf s c l (take depth k) value
  pub is_count : s (cell.Leaf l) 1 ≡ count
  pub compared : IsCompared (packed (s (cell.Leaf l)) 2) count k 0 r
  pub is_byte : HasByte (packed (s (cell.Leaf l)) 2) r byte

module _ (z : Sizes) (k : List ℕ) (depth : ℕ) (w : View) where
  -- the anchor's word names nothing
  pub judged_empty : (x : Stamp) (word : ℕ) → x.cell ≡ cell.Anchor → link_of word ≡ None → Shows z w x (λ s. s cell.Anchor 1 ≡ word) → Says z k depth x Empty w
  judged_empty x word at none shows = (at, λ s shape holds. (words_mean s).root ∙ ap link_of (shows s shape holds) ∙ none)

  -- ---- a node

  module _ (y : Stamp) (n : Node) (header : ℕ) (deep : depth ≤ length k) where
    -- all of its prefix was passed, and the key has ended
    pub judged_passed : length k ≤ depth + count_in header → Shows z w y (λ s. IsPassed s n k depth header) → Says z k depth y Overlaps w
    judged_passed over shows s shape holds =
        let is = shows s shape holds in
        let within = is.same.within in
        ends_within z s n k depth header shape is.on deep (count_in header) (omega arith) (omega (arith, within, over)) is.same

    pub judged_below : (at : ℕ) → y.cell ≡ cell.Node n → IsWithin k depth (count_in header) (Below at) → Shows z w y (λ s. PrefixRead s n k depth header (Below at))
        → Says z k depth y (PrefixMismatch n header at) w
    judged_below at is within shows = (
      is,
      within.0,
      within.1,
      λ s shape holds.
          let read = shows s shape holds in
          record { on = read.on; same = read.compared.1; other = below_other (packed (s (cell.Node n)) 2) (count_in header) k depth at read.compared },
    )

    -- a byte of it is above the key's, or the key has ended there
    module _ (at : ℕ) (within : IsWithin k depth (count_in header) (Above at)) (shows : Shows z w y (λ s. PrefixRead s n k depth header (Above at))) where
      pub judged_above : y.cell ≡ cell.Node n → depth + at < length k → Says z k depth y (PrefixMismatch n header at) w
      judged_above is low = (
        is,
        within.0,
        low,
        λ s shape holds.
            let read = shows s shape holds in
            record { on = read.on; same = read.compared.1; other = above_other (packed (s (cell.Node n)) 2) (count_in header) k depth at low read.compared },
      )

      pub judged_ended : length k ≤ depth + at → Says z k depth y Overlaps w
      judged_ended high s shape holds =
          let read = shows s shape holds in
          ends_within z s n k depth header shape read.on deep at (omega (arith, within.0)) (omega (arith, within.1, high)) read.compared.1

  -- ---- a leaf

  module _ (x : Stamp) (l value count byte : ℕ) (inside : l < z.leaves) where
    -- all of its bytes are the key's
    module _ (shows : Shows z w x (λ s. KeyRead s x.cell l k depth value count Same byte)) where
      pub judged_found : count ≡ length k → Says z k depth x (Found l value) w
      judged_found whole = (
        inside,
        λ s shape holds. let read = shows s shape holds in leaf_found z s x.cell l k depth value count shape read.leaf read.is_count whole read.compared,
      )

      pub judged_begins : count ≢ length k → Says z k depth x Overlaps w
      judged_begins apart s shape holds = let read = shows s shape holds in leaf_ends z s x.cell l k depth value count shape read.leaf read.is_count apart read.compared

    pub judged_leaf_below : (at : ℕ) → depth ≤ length k → IsWithin k 0 count (Below at) → Shows z w x (λ s. KeyRead s x.cell l k depth value count (Below at) byte) → Says z k depth x (LeafMismatch l at byte) w
    judged_leaf_below at deep within shows = (
      inside,
      omega (arith, within.1),
      λ s shape holds.
          let read = shows s shape holds in
          leaf_parts z s x.cell l k depth value count shape read.leaf read.is_count at byte deep within.0 read.compared.1 (below_other (packed (s (cell.Leaf l)) 2) count k 0 at read.compared) read.is_byte,
    )

    -- one of its bytes is above the key's, or the key has ended there
    module _ (at : ℕ) (within : IsWithin k 0 count (Above at)) (shows : Shows z w x (λ s. KeyRead s x.cell l k depth value count (Above at) byte)) where
      pub judged_leaf_above : depth ≤ length k → at < length k → Says z k depth x (LeafMismatch l at byte) w
      judged_leaf_above deep low = (
        inside,
        low,
        λ s shape holds.
            let read = shows s shape holds in
            leaf_parts z s x.cell l k depth value count shape read.leaf read.is_count at byte deep within.0 read.compared.1
            (above_other (packed (s (cell.Leaf l)) 2) count k 0 at (omega (arith, low)) read.compared) read.is_byte,
      )

      pub judged_leaf_ended : length k ≤ at → Says z k depth x Overlaps w
      judged_leaf_ended high s shape holds =
          let read = shows s shape holds in
          leaf_goes_on z s x.cell l k depth value count shape read.leaf read.is_count at within.0 (omega (arith, within.1, high)) read.compared.1
