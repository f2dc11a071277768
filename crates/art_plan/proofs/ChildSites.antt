-- The site of a child: the key's bytes lead to it, and the last of them is that of the node that has the child.
use Rattle.std.proofs.Common.{◌≡◌, ℕ, ◌-◌, ◌<◌, ◌≤◌, List, [], ◌∷◌, ◌++◌, length, get_or, take, Option, Some, refl, sym, ap, ◌∙◌, subst, arith, get_or-take, length-take-le, length-append}
use Rattle.std.proofs.lemmas.List.{get_or_push}
use Rattle.std.specs.Borrow.{Bor}
use Rattle.art_cell.specs.declared.cells.Body.{Body}
use Rattle.art_cell.specs.declared.cells.Cell.{Cell}
use Rattle.art_cell.specs.declared.cells.Cell.TheVariants as cell
use Rattle.art_cell.specs.declared.cells.Link.{Link}
use Rattle.art_cell.specs.declared.cells.Node.{Node}
use Rattle.art_plan.specs.ChooseInsert.Bodies.{IsFilled, site_by, site_in}
use Rattle.art_plan.specs.Puts.{IsTaken}
use Rattle.art_plan.specs.Seen.{HasAt, SiteFits, site_stamp}
use Rattle.art_plan.specs.declared.changes.Site.{Site}
use Rattle.art_step.specs.Knowledge.{HoldsAll, IsShape}
use Rattle.art_step.specs.Shows.{HasChild, Shows}
use Rattle.art_step.specs.WordPlaces.{HasVersion}
use Rattle.art_step.specs.declared.views.Sizes.{Sizes}
use Rattle.art_step.specs.declared.views.Stamp.{Stamp}
use Rattle.art_step.specs.declared.views.View.{View}
use Rattle.art_tree.proofs.Paths.{length_past}
use Rattle.art_tree.proofs.Places.{one_path}
use Rattle.art_tree.specs.Heaps.{Cells, heap_of}
use Rattle.art_tree.specs.Tree.{down, path_past, top}
use Rattle.art_tree.specs.Tree as tree
use Rattle.art_plan.proofs.SeenBodies.{seen_taken}
use Rattle.art_plan.proofs.WholeCells.{IsWhole, read_root, read_whole}

-- the stamp of the site
stamp_by : (c : Cell) (x : Stamp) (body : Bor Body) (byte : ℕ) → site_stamp (site_by c x body byte) ≡ x
stamp_by cell.Anchor x body byte = refl
stamp_by (cell.Leaf l) x body byte = refl
stamp_by (cell.Node n) x body byte = refl

pub stamp_in : (x : Stamp) (body : Bor Body) (byte : ℕ) → site_stamp (site_in x body byte) ≡ x
stamp_in x body byte = stamp_by x.cell x body byte

-- the site, and the bytes of the key, by the names that they have in code
pub site_named : (x : Stamp) (body : Bor Body) (key k : List ℕ) (depth : ℕ) (site : Site) → site ≡ site_in x body (get_or key (depth - 1) 0) → key ≡ k → site ≡ site_in x body (get_or k (depth - 1) 0)
site_named x body key k depth site is same = is ∙ ap (λ (bytes : List ℕ). site_in x body (get_or bytes (depth - 1) 0)) same

-- ---- in a tree

module _ (z : Sizes) (s : Cells) (shape : IsShape z s) (d : Link) (k : List ℕ) (depth : ℕ) (deep : depth ≤ length k) where
  -- no byte leads to the child of the anchor
  root_has : HasChild s cell.Anchor d (take depth k) → HasAt tree.Top (take depth k) (Some d) s
  root_has has = (one_path (heap_of s) d (take depth k) [] shape.tree.once has.at (top has.names refl), has.names)

  module _ (n : Node) (has : HasChild s (cell.Node n) d (take depth k)) where
    abbrev r : List ℕ
    r = path_past (heap_of s) n has.path has.byte

    -- a cell of a tree has one path
    one : take depth k ≡ r
    one = one_path (heap_of s) d (take depth k) r shape.tree.once has.at (down has.byte has.there has.names refl)

    long : length r ≡ depth
    long = ap length (sym one) ∙ length-take-le depth k deep

    -- so at least one byte leads to a child of a node
    pub some_byte : 0 < depth
    some_byte = let past = length_past (heap_of s) n has.path has.byte in omega (arith, long, past)

    -- and the last is that of the child
    pub last_byte : has.byte ≡ get_or k (depth - 1) 0
    last_byte =
        let front = has.path ++ (heap_of s).prefix n in
        let past = length-append front (has.byte ∷ []) in
        let before : length front ≡ depth - 1 = omega (arith, long, past) in
        sym (get_or_push front has.byte 0 (length front) refl)
        ∙ ap (λ (xs : List ℕ). get_or xs (length front) 0) (sym one)
        ∙ ap (λ (i : ℕ). get_or (take depth k) i 0) before
        ∙ get_or-take depth k (depth - 1) 0 (let some = some_byte in omega (arith, some))

    pub slot_has : HasAt (tree.Slot n (get_or k (depth - 1) 0)) (take depth k) (Some d) s
    slot_has = subst (λ (b : ℕ). HasAt (tree.Slot n b) (take depth k) (Some d) s) last_byte ((has.path, has.there, one), has.names)

-- ---- as the plan goes by it

module _ (z : Sizes) (u : View) (x : Stamp) (reads : List (Option ℕ)) (whole : IsWhole z u x reads) (d : Link) (k : List ℕ) (depth : ℕ) (deep : depth ≤ length k)
    (shows : Shows z u x (λ s. HasChild s x.cell d (take depth k))) where
  abbrev byte : ℕ
  byte = get_or k (depth - 1) 0

  module _ (body : Bor Body) (filled : IsFilled x.cell reads body.now) where
    pub site_fits : byte < 256 → SiteFits z u (site_in x body byte) k depth (Some d)
    site_fits low = by_cell x.cell refl
      where
        by_cell : (c : Cell) → x.cell ≡ c → SiteFits z u (site_by c x body byte) k depth (Some d)
        by_cell cell.Anchor at =
            let root = read_root z u x reads whole at in record {
              word = root.0;
              read = root.1;
              shows = λ s shape holds. root_has z s shape d k depth deep (subst (λ (c : Cell). HasChild s c d (take depth k)) at (shows s shape holds));
            }
        by_cell (cell.Leaf l) at = absurd (subst (HasVersion z) at whole.stamp.inside)
        by_cell (cell.Node n) at = record {
          node = n;
          read = read_whole z u x reads whole n at body.now filled;
          low = low;
          shows = λ s shape holds. slot_has z s shape d k depth deep n (subst (λ (c : Cell). HasChild s c d (take depth k)) at (shows s shape holds));
        }

  -- in a tree in which all that was noted holds
  module _ (s : Cells) (shape : IsShape z s) (holds : HoldsAll u x s) where
    has_child : (n : Node) → x.cell ≡ cell.Node n → HasChild s (cell.Node n) d (take depth k)
    has_child n at = subst (λ (c : Cell). HasChild s c d (take depth k)) at (shows s shape holds)

    pub site_deep : (n : Node) → x.cell ≡ cell.Node n → 0 < depth
    site_deep n at = some_byte z s shape d k depth deep n (has_child n at)

    pub site_taken : (body : Bor Body) → IsFilled x.cell reads body.now → IsTaken (site_in x body byte)
    site_taken body filled = by_cell x.cell refl
      where
        by_cell : (c : Cell) → x.cell ≡ c → IsTaken (site_by c x body byte)
        by_cell cell.Anchor at = tt
        by_cell (cell.Leaf l) at = tt
        by_cell (cell.Node n) at = seen_taken z u x reads whole s shape holds n at body.now filled byte d (slot_has z s shape d k depth deep n (has_child n at)).1
