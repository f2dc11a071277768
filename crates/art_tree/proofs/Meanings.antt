-- What words mean, and what they mean after a change.
use Rattle.std.proofs.Common.{◌≡◌, ◌≢◌, ℕ, ◌<◌, ◌≤◌, Bool, true, false, cond, ltb, List, [], length, Option, Some, None, refl, sym, ap, ◌∙◌, subst, ⊎_elim, arith, ne_eqb}
use Rattle.std.proofs.lemmas.Bool.{cases_lt, lt-ltb, le-ltb}
use Rattle.std.proofs.lemmas.List.FromFn.{length-map-range_with_len}
use Rattle.std.specs.Option.{option_and_then}
use Rattle.art_cell.specs.declared.cells.Layout.{Layout}
use Rattle.art_cell.specs.declared.cells.Node.{Node}
use Rattle.art_cell.specs.declared.cells.Link.{Link}
use Rattle.art_cell.specs.declared.cells.Link.TheVariants.{Node as node}
use Rattle.art_cell.specs.declared.cells.Cell.{Cell}
use Rattle.art_cell.specs.declared.cells.Cell.TheVariants as cell
use Rattle.art_cell.specs.Bodies.{Becomes}
use Rattle.art_tree.specs.Changes.{SameLeaves, SameTree}
use Rattle.art_cell.specs.Children.{child_word, link_of}
use Rattle.art_cell.specs.Leaves.{leaf_key}
use Rattle.art_cell.specs.Lemmas.Entries.{with_here, without_here}
use Rattle.art_tree.specs.Heaps.{Cells, node_prefix, key_of, heap_of, WordsMeanCells, MeansTheSame}
use Rattle.art_cell.specs.Reads.{with_child, without_child}
use Rattle.art_tree.specs.Tree.{Place, Top, Slot, child_at_place}
use Rattle.art_tree.specs.WordChanges.{FitsWord, at_byte, WritesPlace, WritesNode, cell_of, WritesOnly, KeepsChildren, SameByWords}
use Rattle.art_cell.specs.Words.{Words, prefix_len, packed, prefix_of, child_of}
use Rattle.art_tree.proofs.ChildWords.{link_back}
use Rattle.art_tree.proofs.Places.{same_cell, same_link}

-- ---- what words mean

-- the child that a map of child words has at a byte
abbrev pub child_at : (ℕ → Option ℕ) → ℕ → Option Link
child_at child b = cond (ltb b 256) (option_and_then link_of (child b)) None

root_is : (cells : Cells) → (heap_of cells).root ≡ link_of (cells cell.Anchor 1)
unfolding heap_of
root_is cells = refl

-- the node's child at a byte, by its child words
pub child_is : (cells : Cells) (n : Node) (b : ℕ) → (heap_of cells).child n b ≡ child_at (child_of n.layout (cells (cell.Node n))) b
unfolding heap_of
child_is cells n b = refl

-- the node's prefix, by its words
pub prefix_is : (cells : Cells) (n : Node) → (heap_of cells).prefix n ≡ node_prefix (cells (cell.Node n))
unfolding heap_of
prefix_is cells n = refl

key_is : (cells : Cells) (l : ℕ) → (heap_of cells).key l ≡ key_of (cells (cell.Leaf l))
unfolding heap_of
key_is cells l = refl

value_is : (cells : Cells) (l : ℕ) → (heap_of cells).value l ≡ cells (cell.Leaf l) 0
unfolding heap_of
value_is cells l = refl

low_child : (child : ℕ → Option ℕ) (b : ℕ) → b < 256 → child_at child b ≡ option_and_then link_of (child b)
low_child child b low = ap (λ t. cond t (option_and_then link_of (child b)) None) (lt-ltb b 256 low)

short_prefix : (w : Words) → prefix_len w ≤ 64 → node_prefix w ≡ prefix_of w
short_prefix w short = ap (λ t. cond t [] (prefix_of w)) (le-ltb 64 (prefix_len w) short)

short_key : (w : Words) → w 1 ≤ 64 → key_of w ≡ leaf_key w
short_key w short = ap (λ t. cond t [] (leaf_key w)) (le-ltb 64 (w 1) short)

pub words_mean : WordsMeanCells
words_mean cells = record {
  root = root_is cells;
  prefix = λ n short. prefix_is cells n ∙ short_prefix (cells (cell.Node n)) short;
  child = λ n b low. child_is cells n b ∙ low_child (child_of n.layout (cells (cell.Node n))) b low;
  key = λ l short. key_is cells l ∙ short_key (cells (cell.Leaf l)) short;
  value = value_is cells;
}

-- ---- cells that mean the same

-- a place of such a cell holds what it held
pub held_same : (cells after : Cells) (y : Place) → MeansTheSame (cell_of y) (cells (cell_of y)) (after (cell_of y)) → child_at_place (heap_of after) y ≡ child_at_place (heap_of cells) y
unfolding heap_of
held_same cells after Top same = same
held_same cells after (Slot n b) same = same.1 b

-- such a node has the prefix that it had
pub prefix_same : (cells after : Cells) (n : Node) → MeansTheSame (cell.Node n) (cells (cell.Node n)) (after (cell.Node n)) → (heap_of after).prefix n ≡ (heap_of cells).prefix n
unfolding heap_of
prefix_same cells after n same = same.0

key_same : (cells after : Cells) (l : ℕ) → MeansTheSame (cell.Leaf l) (cells (cell.Leaf l)) (after (cell.Leaf l)) → (heap_of after).key l ≡ (heap_of cells).key l
unfolding heap_of
key_same cells after l same = same.0

value_same : (cells after : Cells) (l : ℕ) → MeansTheSame (cell.Leaf l) (cells (cell.Leaf l)) (after (cell.Leaf l)) → (heap_of after).value l ≡ (heap_of cells).value l
unfolding heap_of
value_same cells after l same = same.1

-- linked cells that mean what they meant are the same tree
pub same_tree : (cells after : Cells) → SameByWords cells after → SameTree (heap_of cells) (heap_of after)
same_tree cells after w = record {
  root = held_same cells after Top w.anchor;
  child = λ n p b at. held_same cells after (Slot n b) (w.nodes n p at);
  prefix = λ n p at. prefix_same cells after n (w.nodes n p at);
  key = λ l p at. key_same cells after l (w.leaves l p at);
  value = λ l p at. value_same cells after l (w.leaves l p at);
}

-- leaves that are not written stay as they are
pub same_leaves : (cells after : Cells) (written : Cell → Type 0) → WritesOnly cells after written → ((l : ℕ) → written (cell.Leaf l) → ⊥) → SameLeaves (heap_of cells) (heap_of after)
same_leaves cells after written rest none = record {
  keys = λ l. key_same cells after l (rest (cell.Leaf l) (none l));
  values = λ l. value_same cells after l (rest (cell.Leaf l) (none l));
}

-- ---- a node that is written whole

same_below : (child other : ℕ → Option ℕ) (b : ℕ) → (b < 256 → other b ≡ child b) → child_at other b ≡ child_at child b
same_below child other b same = ⊎_elim
    (λ (low : b < 256). ap (λ o. cond (ltb b 256) (option_and_then link_of o) None) (same low))
    (λ high. none other high ∙ sym (none child high))
    (cases_lt b 256)
  where
    none : (some : ℕ → Option ℕ) → 256 ≤ b → child_at some b ≡ None
    none some high = ap (λ t. cond t (option_and_then link_of (some b)) None) (le-ltb b 256 high)

-- its children are those of the child words
pub written_child : (after : Cells) (n : Node) (p : List ℕ) (child : ℕ → Option ℕ) (b : ℕ) → WritesNode n.layout (after (cell.Node n)) p child → (heap_of after).child n b ≡ child_at child b
written_child after n p child b w = child_is after n b ∙ same_below child (child_of n.layout (after (cell.Node n))) b (w.children b)

-- and its prefix is the one that was written
pub written_prefix : (after : Cells) (n : Node) (p : List ℕ) (child : ℕ → Option ℕ) → WritesNode n.layout (after (cell.Node n)) p child → (heap_of after).prefix n ≡ p
written_prefix after n p child w = prefix_is after n ∙ short_prefix (after (cell.Node n)) w.body.prefix.short ∙ w.prefix

-- a body that becomes another is written whole, with the prefix that it had
becomes_writes : (k : Layout) (w after : Words) (child : ℕ → Option ℕ) → Becomes k w after child → WritesNode k after (node_prefix w) child
becomes_writes k w after child made = record {
  body = made.body;
  prefix = made.prefix ∙ sym (short_prefix w (omega (arith, len, made.body.prefix.short)));
  children = made.children;
}
  where
    len : prefix_len after ≡ prefix_len w
    len = sym (length-map-range_with_len (packed after 2) 0 (prefix_len after)) ∙ ap length made.prefix ∙ length-map-range_with_len (packed w 2) 0 (prefix_len w)

-- ---- one byte's child

-- a link, or none, whose number takes 32 bits
abbrev pub Fits : Option Link → Type 0
Fits (Some c) = FitsWord c
Fits None = Unit {0}

-- a byte whose child word was written for a link has that link
pub child_named : (child : ℕ → Option ℕ) (b : ℕ) (c : Link) → b < 256 → FitsWord c → child b ≡ Some (child_word c) → child_at child b ≡ Some c
child_named child b c low fits is = low_child child b low ∙ ap (option_and_then link_of) is ∙ link_back c fits

-- and one with no child word has none
pub no_child : (child : ℕ → Option ℕ) (b : ℕ) → child b ≡ None → child_at child b ≡ None
no_child child b is = ap (λ o. cond (ltb b 256) (option_and_then link_of o) None) is ∙ both (ltb b 256)
  where
    both : (t : Bool) → cond t (option_and_then link_of None) None ≡ None
    both true = refl
    both false = refl

at_byte_here : (child : ℕ → Option ℕ) (b : ℕ) (o : Option Link) → b < 256 → Fits o → child_at (at_byte child b o) b ≡ o
at_byte_here child b (Some c) low fits = child_named (with_child child b (child_word c)) b c low fits (with_here child b (child_word c))
at_byte_here child b None low fits = no_child (without_child child b) b (without_here child b)

at_byte_other : (child : ℕ → Option ℕ) (b : ℕ) (o : Option Link) (e : ℕ) → e ≢ b → child_at (at_byte child b o) e ≡ child_at child e
at_byte_other child b (Some c) e apart = same_below child (with_child child b (child_word c)) e (λ _. rw (ne_eqb e b apart) refl)
at_byte_other child b None e apart = same_below child (without_child child b) e (λ _. rw (ne_eqb e b apart) refl)

-- a node written with another child at a byte has it there
pub byte_put : (after : Cells) (m : Node) (p : List ℕ) (child : ℕ → Option ℕ) (b : ℕ) (o : Option Link) → b < 256 → Fits o → WritesNode m.layout (after (cell.Node m)) p (at_byte child b o) → (heap_of after).child m b ≡ o
byte_put after m p child b o low fits w = written_child after m p (at_byte child b o) b w ∙ at_byte_here child b o low fits

-- and at other bytes those of the node whose child words it was given
pub byte_rest : (cells after : Cells) (n m : Node) (p : List ℕ) (b : ℕ) (o : Option Link) (e : ℕ) → e ≢ b → WritesNode m.layout (after (cell.Node m)) p (at_byte (child_of n.layout (cells (cell.Node n))) b o) → (heap_of after).child m e ≡ (heap_of cells).child n e
byte_rest cells after n m p b o e apart w =
    let child = child_of n.layout (cells (cell.Node n)) in
    written_child after m p (at_byte child b o) e w ∙ at_byte_other child b o e apart ∙ sym (child_is cells n e)

-- ---- a node that is written again with another prefix

-- c is the node of this cell
abbrev pub IsNodeOf : Link → Cell → Type 0
IsNodeOf c d = (k : Node) × (c ≡ node k) × (d ≡ cell.Node k)

-- another cell's node is not c
pub not_node : (c : Link) (k : Node) → c ≢ node k → IsNodeOf c (cell.Node k) → ⊥
not_node c k apart i = let same = i.2 in let is = i.1 in apart (cc)

-- it has the prefix that was written
pub kept_prefix : (cells after : Cells) (c : Link) (P : Node → List ℕ → Type 0) (k : Node) → KeepsChildren cells after c P → c ≡ node k → P k ((heap_of after).prefix k)
kept_prefix cells after c P k kept is =
    let w : KeepsChildren cells after (node k) P = subst (λ z. KeepsChildren cells after z P) is kept in
    subst (P k) (sym (written_prefix after k w.0 (child_of k.layout (cells (cell.Node k))) w.2)) w.1

-- and the children that it had, as all nodes have where those of other cells do
pub kept_rest : (cells after : Cells) (c : Link) (P : Node → List ℕ → Type 0) (y : Place) → KeepsChildren cells after c P → ((IsNodeOf c (cell_of y) → ⊥) → child_at_place (heap_of after) y ≡ child_at_place (heap_of cells) y)
    → child_at_place (heap_of after) y ≡ child_at_place (heap_of cells) y
kept_rest cells after c P Top kept rest = rest (λ i. let e = i.2 in cc)
kept_rest cells after c P (Slot k e) kept rest = ⊎_elim
    (λ (is : c ≡ node k).
    let w : KeepsChildren cells after (node k) P = subst (λ z. KeepsChildren cells after z P) is kept in
    written_child after k w.0 (child_of k.layout (cells (cell.Node k))) e w.2 ∙ sym (child_is cells k e))
    (λ (apart : c ≢ node k). rest (not_node c k apart))
    (same_link c (node k))

-- ---- the cell of a place

-- no place is in a leaf
pub no_leaf : (x : Place) (l : ℕ) → cell.Leaf l ≡ cell_of x → ⊥
no_leaf Top l e = cc
no_leaf (Slot n b) l e = cc

-- the place that is written holds what was written
pub held_put : (cells after : Cells) (x : Place) (o : Option Link) → WritesPlace cells after x o → Fits o → child_at_place (heap_of after) x ≡ o
held_put cells after Top (Some c) put fits = root_is after ∙ ap link_of put ∙ link_back c fits
held_put cells after Top None put fits = root_is after ∙ ap link_of put
held_put cells after (Slot n b) o put fits = byte_put after n _ (child_of n.layout (cells (cell.Node n))) b o put.0 fits (becomes_writes n.layout (cells (cell.Node n)) (after (cell.Node n)) _ put.1)

-- another place of its cell holds what it held
held_beside : (cells after : Cells) (x y : Place) (o : Option Link) → WritesPlace cells after x o → y ≢ x → cell_of y ≡ cell_of x → child_at_place (heap_of after) y ≡ child_at_place (heap_of cells) y
held_beside cells after Top Top o put other same = absurd (other refl)
held_beside cells after Top (Slot k e) o put other same = absurd (cc)
held_beside cells after (Slot n b) Top o put other same = absurd (cc)
held_beside cells after (Slot n b) (Slot k e) o put other same =
    let kn : k ≡ n = cc in
    let apart : e ≢ b = λ f. other (cc) in
    subst (λ z. (heap_of after).child z e ≡ (heap_of cells).child z e) (sym kn)
    (byte_rest cells after n n _ b o e apart (becomes_writes n.layout (cells (cell.Node n)) (after (cell.Node n)) _ put.1))

prefix_beside : (cells after : Cells) (x : Place) (k : Node) (o : Option Link) → WritesPlace cells after x o → cell.Node k ≡ cell_of x → (heap_of after).prefix k ≡ (heap_of cells).prefix k
prefix_beside cells after Top k o put same = absurd (cc)
prefix_beside cells after (Slot n b) k o put same =
    let kn : k ≡ n = cc in
    subst (λ z. (heap_of after).prefix z ≡ (heap_of cells).prefix z) (sym kn)
    (written_prefix after n _ _ (becomes_writes n.layout (cells (cell.Node n)) (after (cell.Node n)) _ put.1) ∙ sym (prefix_is cells n))

-- so each other place holds what it held, where those of other cells do
pub held_rest : (cells after : Cells) (x y : Place) (o : Option Link) → WritesPlace cells after x o → y ≢ x → (cell_of y ≢ cell_of x → child_at_place (heap_of after) y ≡ child_at_place (heap_of cells) y) → child_at_place (heap_of after) y ≡ child_at_place (heap_of cells) y
held_rest cells after x y o put other rest = ⊎_elim (held_beside cells after x y o put other) rest (same_cell (cell_of y) (cell_of x))

-- and the prefixes are as they were, where those of other cells are
pub prefix_rest : (cells after : Cells) (x : Place) (k : Node) (o : Option Link) → WritesPlace cells after x o → (cell.Node k ≢ cell_of x → (heap_of after).prefix k ≡ (heap_of cells).prefix k) → (heap_of after).prefix k ≡ (heap_of cells).prefix k
prefix_rest cells after x k o put rest = ⊎_elim (prefix_beside cells after x k o put) rest (same_cell (cell.Node k) (cell_of x))
