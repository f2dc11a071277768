-- The bytes of keys and prefixes, and the words of the new node of a change.
use Rattle.std.proofs.Common.{◌≡◌, ℕ, zero, suc, ◌+◌, ◌<◌, List, [], map, get_or, cond, Option, Some, sym, ap, ◌∙◌, subst, arith}
use Rattle.std.proofs.lemmas.Bool.{le-ltb}
use Rattle.std.proofs.lemmas.Option.{same_Some}
use Rattle.std.specs.List.{range_with_len}
use Rattle.art_cell.specs.Reads.{word_of}
use Rattle.art_cell.specs.Bodies.{IsBody}
use Rattle.art_cell.specs.Words.{Words, packed, prefix_len, prefix_of}
use Rattle.art_cell.specs.declared.cells.Cell.TheVariants as cell
use Rattle.art_cell.specs.declared.cells.Node.{Node}
use Rattle.art_cell.specs.declared.cells.Layout.{Layout}
use Rattle.art_commit.specs.CommitLaws.{Before, ClaimedAmong, HasLeaf}
use Rattle.art_node.specs.Prefixes.{IsNodeOf}
use Rattle.art_plan.specs.Changes.{IsReady, node_made}
use Rattle.art_plan.specs.declared.changes.Change.{Change}
use Rattle.art_step.specs.declared.views.Sizes.{Sizes}
use Rattle.art_step.specs.declared.views.View.{View}
use Rattle.art_tree.specs.Heaps.{Cells, node_prefix}
use Rattle.art_tree.specs.WordChanges.{WritesNode}
use Rattle.art_plan.proofs.CutWords.{cut_body, cut_prefix, cut_words}
use Rattle.art_plan.proofs.ReadyCells.{claims_made, made_outside, made_words}
use Rattle.art_plan.proofs.WordsWithin.{node_within}

-- ---- bytes

packed_small : (w : Words) (from i : ℕ) → packed w from i < 256
unfolding packed
packed_small w from i = omega arith

bytes_small : (w : Words) (place from n i : ℕ) → get_or (map (packed w place) (range_with_len from n)) i 0 < 256
bytes_small w place from zero i = omega arith
bytes_small w place from (suc n) zero = packed_small w place from
bytes_small w place from (suc n) (suc i) = bytes_small w place (from + 1) n i

-- those of the key of a leaf in hand, and of a node's prefix
pub key_small : (z : Sizes) (u : View) (l : ℕ) (k : List ℕ) (value i : ℕ) → HasLeaf z u l k value → get_or k i 0 < 256
key_small z u l k value i has = subst (λ (xs : List ℕ). get_or xs i 0 < 256) has.words.key (bytes_small _ 2 0 _ i)

pub prefix_small : (w : Words) (p : List ℕ) (i : ℕ) → prefix_of w ≡ p → get_or p i 0 < 256
prefix_small w p i e = subst (λ (xs : List ℕ). get_or xs i 0 < 256) e (bytes_small w 2 0 _ i)

-- ---- of a change whose cells are all held, the words of the new node

module _ (z : Sizes) (u v : View) (c : Change) (ready : IsReady u c v) (m : Node) (made : node_made c ≡ Some m) where
  pub claims_one : ClaimedAmong v (λ n. n ≡ m)
  claims_one h n i free is = same_Some n m (sym (claims_made z u v c ready h n i free is) ∙ made)

  pub made_written : (s s' : Cells) (b : Before z v s s') (p : List ℕ) (child : ℕ → Option ℕ) → IsNodeOf m.layout (word_of c.body) p child → WritesNode m.layout (s' (cell.Node m)) p child
  made_written s s' b p child is = node_within m.layout (word_of c.body) (s' (cell.Node m)) p child (made_words z u v c ready s s' b m made) (made_outside z u v c ready s s' b m made) is

-- ---- the prefix of a node's words

pub node_prefix_is : (k : Layout) (w : Words) → IsBody k w → node_prefix w ≡ prefix_of w
node_prefix_is k w body = ap (λ t. cond t [] (prefix_of w)) (le-ltb 64 (prefix_len w) body.prefix.short)

-- that of the words of a layout alone
pub cut_node_prefix : (k : Layout) (w : Words) → IsBody k w → node_prefix (cut_words k w) ≡ prefix_of w
cut_node_prefix k w body = let cut = cut_body k w body in node_prefix_is k (cut_words k w) cut ∙ sym (cut_prefix k w cut)

-- a node that is written with a prefix and children is so with the same ones
pub writes_same : (k : Layout) (w : Words) (p q : List ℕ) (f g : ℕ → Option ℕ) → WritesNode k w p f → p ≡ q → ((b : ℕ) → b < 256 → f b ≡ g b) → WritesNode k w q g
writes_same k w p q f g is prefix children = record { body = is.body; prefix = is.prefix ∙ prefix; children = λ b low. is.children b low ∙ children b low }
