-- What a look of a range has seen.
use Rattle.std.proofs.Common.{◌≡◌, ◌⊎◌, ℕ, ◌<◌, ◌≤◌, List, [], ◌∷◌, ◌++◌, Some, None, refl, sym, ap, ◌∙◌, subst, inl, ⊎_elim, zero-le, append-nil, arith}
use Rattle.std.proofs.lemmas.Bool.{cases_order, cases_lt}
use Rattle.art_cell.specs.declared.cells.Node.{Node}
use Rattle.art_cell.specs.declared.cells.Link.TheVariants.{Leaf as leaf, Node as node}
use Rattle.art_tree.specs.Tree.{Heap, path_past, StandsAt, top, down, Begins, Row, IsTree}
use Rattle.art_tree.specs.declared.bounds.Bound.{Bound}
use Rattle.art_tree.specs.declared.bounds.Bound.TheVariants.{To}
use Rattle.art_tree.specs.Looks.{Before, NoneIn, OnlyIn, Caps}
use Rattle.art_tree.proofs.Paths.{begins_more}
use Rattle.art_tree.proofs.Lookup.{row_at_leaf, row_at_node, absent_empty}
use Rattle.art_tree.proofs.Order.{before_byte, between, before_longer, not_before_front, before_not}

pub seen_empty : (h : Heap) (lo : List ℕ) (hi : Bound) → h.root ≡ None → NoneIn h lo hi
seen_empty h lo hi empty k v o _ = absent_empty h k empty v o

pub seen_alone : (h : Heap) (lo : List ℕ) (hi : Bound) (i : ℕ) → IsTree h → h.root ≡ Some (leaf i) → OnlyIn h lo hi (h.key i) (h.value i)
seen_alone h lo hi i s alone k v o _ =
    let same = row_at_leaf h i [] k v s (top alone refl) (k, refl) o in
    (sym o.key ∙ ap h.key same, sym o.value ∙ ap h.value same)

-- no key from lo on stands at a byte of n below b
abbrev pub StartsAt : Heap → Node → List ℕ → List ℕ → ℕ → Type 0
StartsAt h n r lo b = (e : ℕ) (k : List ℕ) → Begins (path_past h n r e) k → (Before k lo → ⊥) → b ≤ e

pub starts_at_byte : (h : Heap) (n : Node) (r lo : List ℕ) (b : ℕ) → Begins (path_past h n r b) lo → StartsAt h n r lo b
starts_at_byte h n r lo b f e k g low = ⊎_elim (λ (lt : e < b). absurd (low (before_byte (r ++ h.prefix n) k lo e b g f lt))) (λ (ge : b ≤ e). ge) (cases_lt e b)

pub starts_at_zero : (h : Heap) (n : Node) (r lo : List ℕ) → StartsAt h n r lo 0
starts_at_zero h n r lo e k g low = zero-le

module _ (h : Heap) (n : Node) (r lo : List ℕ) (s : IsTree h) (at : StandsAt h (node n) r) (front : Begins r lo) where
  past_begins : (c : ℕ) → Begins r (path_past h n r c)
  past_begins c = begins_more r (h.prefix n) (path_past h n r c) (c ∷ [], refl)

  -- the node's whole path is before lo and does not begin it
  pub seen_short : (hi : Bound) → Before (r ++ h.prefix n) lo → (Begins (r ++ h.prefix n) lo → ⊥) → Caps h r hi → NoneIn h lo hi
  seen_short hi short differs caps k v o range =
      let f : Begins r k = ⊎_elim (λ (e : Before k r). absurd (range.0 (before_longer k r lo e front))) (λ (e : Begins r k). e) (caps k v o range.1) in
      let on = row_at_node h n r k v s at f o in
      let g : Begins (r ++ h.prefix n) k = begins_more (r ++ h.prefix n) (on.0 ∷ []) k on.3 in
      differs (between (r ++ h.prefix n) (r ++ h.prefix n) lo k ([], append-nil _) g (λ e. before_not lo (r ++ h.prefix n) e short) range.0)

  -- no child from byte b on
  pub seen_none : (hi : Bound) (b : ℕ) → StartsAt h n r lo b → Begins (r ++ h.prefix n) lo → ((e : ℕ) → b ≤ e → h.child n e ≡ None) → Caps h (r ++ h.prefix n) hi → NoneIn h lo hi
  seen_none hi b starts begins none caps k v o range =
      let f : Begins (r ++ h.prefix n) k = ⊎_elim (λ (e : Before k (r ++ h.prefix n)). absurd (range.0 (before_longer k (r ++ h.prefix n) lo e begins))) (λ (e : Begins (r ++ h.prefix n) k). e) (caps k v o range.1) in
      let on = row_at_node h n r k v s at (begins_more r (h.prefix n) k f) o in
      let free = none on.0 (starts on.0 k on.3 range.0) in
      let some = on.2 in
      cc

  -- the child at c is the least from byte b on: a key from lo on, and not after what begins with its path, is below it
  way_to : (b c : ℕ) → StartsAt h n r lo b → ((e : ℕ) → b ≤ e → e < c → h.child n e ≡ None) → (k : List ℕ) (v : ℕ) → Row h k v → (Before k lo → ⊥) → Before k (path_past h n r c) ⊎ Begins (path_past h n r c) k → Begins (path_past h n r c) k
  way_to b c starts none k v o low high =
      ⊎_elim
      (λ (e : Before k (path_past h n r c)).
      let f : Begins r k = between r lo k (path_past h n r c) front (past_begins c) low (λ g. before_not k (path_past h n r c) e g) in
      let on = row_at_node h n r k v s at f o in
      let some = on.2 in
      ⊎_elim
      (λ (lt : on.0 < c). let free = none on.0 (starts on.0 k on.3 low) lt in absurd (cc))
      (λ (ge : c ≤ on.0). ⊎_elim
      (λ (same : on.0 ≡ c). subst (λ y. Begins (path_past h n r y) k) same on.3)
      (⊎_elim
      (λ (lt : on.0 < c). absurd (omega arith))
      (λ (gt : c < on.0). absurd (before_not k (path_past h n r c) e (before_byte (r ++ h.prefix n) (path_past h n r c) k c on.0 ([], append-nil _) on.3 gt))))
      (cases_order on.0 c))
      (cases_lt on.0 c))
      (λ (e : Begins (path_past h n r c) k). e)
      high

  pub seen_leaf : (hi : Bound) (b c i : ℕ) → StartsAt h n r lo b → h.child n c ≡ Some (leaf i) → ((e : ℕ) → b ≤ e → e < c → h.child n e ≡ None) → Caps h (path_past h n r c) hi → OnlyIn h lo hi (h.key i) (h.value i)
  seen_leaf hi b c i starts child none caps k v o range =
      let f = way_to b c starts none k v o range.0 (caps k v o range.1) in
      let same = row_at_leaf h i (path_past h n r c) k v s (down c at child refl) f o in
      (sym o.key ∙ ap h.key same, sym o.value ∙ ap h.value same)

  pub seen_before : (b c : ℕ) → StartsAt h n r lo b → ((e : ℕ) → b ≤ e → e < c → h.child n e ≡ None) → NoneIn h lo (To (path_past h n r c))
  seen_before b c starts none k v o range =
      not_before_front (path_past h n r c) k (way_to b c starts none k v o range.0 (inl range.1)) range.1
