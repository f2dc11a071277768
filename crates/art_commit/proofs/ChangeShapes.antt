-- What a change writes has the form of a cell of a tree.
use Rattle.std.proofs.Common.{◌≡◌, ◌≢◌, ◌⊎◌, ℕ, ◌<◌, cond, List, Option, Some, None, refl, sym, ap, ◌∙◌, subst, inl, inr, ⊎_elim, eq-eqb, ne_eqb}
use Rattle.std.proofs.lemmas.Bool.{cases_lt, cases_eq, lt-ltb, le-ltb}
use Rattle.std.proofs.lemmas.Option.{same_Some}
use Rattle.std.specs.Option.{option_and_then}
use Rattle.art_cell.specs.declared.cells.Node.{Node}
use Rattle.art_cell.specs.declared.cells.Cell.{Cell}
use Rattle.art_cell.specs.declared.cells.Cell.TheVariants as cell
use Rattle.art_cell.specs.declared.cells.Link.{Link}
use Rattle.art_cell.specs.declared.cells.Link.TheVariants.{Node as node}
use Rattle.art_step.specs.declared.views.Sizes.{Sizes}
use Rattle.art_cell.specs.Children.{child_word, link_of}
use Rattle.art_tree.specs.Heaps.{Cells, node_prefix, node_child, key_of, heap_of, MeansTheSame}
use Rattle.art_step.specs.Knowledge.{NamesCell, IsNodeCell, IsShape}
use Rattle.art_commit.specs.AnyChange.{IsAnchorFormed}
use Rattle.art_cell.specs.Reads.{with_child, without_child}
use Rattle.art_tree.specs.Tree.{Place, Top, Slot, child_at_place, PlaceAt}
use Rattle.art_tree.specs.WordChanges.{FitsWord, at_byte, WritesPlace, WritesNode, two_children, cell_of, KeepsChildren}
use Rattle.art_cell.specs.Words.{Words, child_of}
use Rattle.art_tree.proofs.ChildWords.{link_back, link_exact}
use Rattle.art_tree.proofs.Meanings.{Fits}

-- ---- the same words

-- mean the same
pub means_same : (c : Cell) (w after : Words) → after ≡ w → MeansTheSame c w after
means_same cell.Anchor w after e = ap (λ (u : Words). link_of (u 1)) e
means_same (cell.Leaf l) w after e = (ap key_of e, ap (λ (u : Words). u 0) e)
means_same (cell.Node n) w after e = (ap node_prefix e, λ b. ap (λ (u : Words). node_child n.layout u b) e)

-- ---- links that are read from words

word_fits : (o : Option ℕ) (c : Link) → option_and_then link_of o ≡ Some c → FitsWord c
word_fits None c e = absurd (cc)
word_fits (Some word) c e = (link_exact word c e).1

-- the number of a link that a place holds takes 32 bits
pub held_fits : (s : Cells) (x : Place) (c : Link) → child_at_place (heap_of s) x ≡ Some c → FitsWord c
unfolding heap_of
held_fits s Top c e = (link_exact (s cell.Anchor 1) c e).1
held_fits s (Slot n b) c e = ⊎_elim
    (λ (low : b < 256). word_fits words c (sym (ap (λ t. cond t (option_and_then link_of words) None) (lt-ltb b 256 low)) ∙ e))
    (λ high. let none : node_child n.layout (s (cell.Node n)) b ≡ None = ap (λ t. cond t (option_and_then link_of words) None) (le-ltb b 256 high) in absurd (cc))
    (cases_lt b 256)
  where
    words : Option ℕ
    words = child_of n.layout (s (cell.Node n)) b

-- ---- child words that name cells

-- those of the map do
abbrev pub NameCells : (ℕ → Option ℕ) → Type 0
NameCells child = (b word : ℕ) → b < 256 → child b ≡ Some word → NamesCell word

-- the word of a link whose number takes 32 bits does
named : (c : Link) (word : ℕ) → FitsWord c → Some (child_word c) ≡ Some word → NamesCell word
named c word fits e = subst NamesCell (same_Some (child_word c) word e) (c, link_back c fits)

pub at_byte_names : (child : ℕ → Option ℕ) (b : ℕ) (o : Option Link) → Fits o → NameCells child → NameCells (at_byte child b o)
at_byte_names child b (Some c) fits old e word low is = ⊎_elim
    (λ (f : e ≡ b). let here : with_child child b (child_word c) e ≡ Some (child_word c) = rw (eq-eqb e b f) refl in named c word fits (sym here ∙ is))
    (λ (f : e ≢ b). let there : with_child child b (child_word c) e ≡ child e = rw (ne_eqb e b f) refl in old e word low (sym there ∙ is))
    (cases_eq e b)
at_byte_names child b None fits old e word low is = ⊎_elim
    (λ (f : e ≡ b). let here : without_child child b e ≡ None = rw (eq-eqb e b f) refl in absurd (cc))
    (λ (f : e ≢ b). let there : without_child child b e ≡ child e = rw (ne_eqb e b f) refl in old e word low (sym there ∙ is))
    (cases_eq e b)

pub two_children_name : (a : ℕ) (c : Link) (b : ℕ) (d : Link) → FitsWord c → FitsWord d → NameCells (two_children a c b d)
two_children_name a c b d c-fits d-fits e word low is = ⊎_elim
    (λ (f : e ≡ a). let one : two_children a c b d e ≡ Some (child_word c) = rw (eq-eqb e a f) refl in named c word c-fits (sym one ∙ is))
    (λ (f : e ≢ a). ⊎_elim
    (λ (g : e ≡ b). let two : two_children a c b d e ≡ Some (child_word d) = rw (ne_eqb e a f, eq-eqb e b g) refl in named d word d-fits (sym two ∙ is))
    (λ (g : e ≢ b). let none : two_children a c b d e ≡ None = rw (ne_eqb e a f, ne_eqb e b g) refl in absurd (cc))
    (cases_eq e b))
    (cases_eq e a)

-- ---- forms

-- a node that is written whole has its form
pub written_formed : (s : Cells) (n : Node) (p : List ℕ) (child : ℕ → Option ℕ) → WritesNode n.layout (s (cell.Node n)) p child → NameCells child → IsNodeCell n (s (cell.Node n))
written_formed s n p child w names = record { body = w.body; children = λ b word low is. names b word low (sym (w.children b low) ∙ is) }

-- so has one that is written again with its own children
pub kept_formed : (s s' : Cells) (c : Link) (P : Node → List ℕ → Type 0) (k : Node) → KeepsChildren s s' c P → c ≡ node k → IsNodeCell k (s (cell.Node k)) → IsNodeCell k (s' (cell.Node k))
kept_formed s s' c P k kept is old =
    let w : KeepsChildren s s' (node k) P = subst (λ d. KeepsChildren s s' d P) is kept in
    written_formed s' k w.0 (child_of k.layout (s (cell.Node k))) w.2 old.children

-- so has the node of the place that is written
pub place_formed : (z : Sizes) (s s' : Cells) (x : Place) (o : Option Link) (r : List ℕ) → IsShape z s → PlaceAt (heap_of s) x r → WritesPlace s s' x o → Fits o
    → (n : Node) → cell.Node n ≡ cell_of x → IsNodeCell n (s' (cell.Node n))
place_formed z s s' Top o r shape at put fits n is = absurd (cc)
place_formed z s s' (Slot k b) o r shape at put fits n is =
    let same : k ≡ n = cc in
    let names = at_byte_names (child_of k.layout (s (cell.Node k))) b o fits (shape.nodes k at.0 at.1).children in
    subst (λ y. IsNodeCell y (s' (cell.Node y))) same (record { body = put.1.body; children = λ e word low is. names e word low (sym (put.1.children e low) ∙ is) })

-- and the anchor
pub anchor_formed : (z : Sizes) (s s' : Cells) (x : Place) (o : Option Link) → IsShape z s → WritesPlace s s' x o → Fits o → (cell.Anchor ≢ cell_of x → s' cell.Anchor ≡ s cell.Anchor) → IsAnchorFormed s'
anchor_formed z s s' Top (Some c) shape put fits other = inr (named c (s' cell.Anchor 1) fits (ap Some (sym put)))
anchor_formed z s s' Top None shape put fits other = inl put
anchor_formed z s s' (Slot n b) o shape put fits other =
    subst (λ (w : Words). (w 1 ≡ 0) ⊎ NamesCell (w 1)) (sym (other (λ e. cc))) shape.anchor
