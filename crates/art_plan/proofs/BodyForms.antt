-- The words of a body have the forms of their places.
use Rattle.std.proofs.Common.{◌≡◌, ◌≢◌, ℕ, zero, suc, ◌+◌, ◌-◌, ◌*◌, ◌/◌, ◌%◌, ◌^◌, ◌<◌, ◌≤◌, length, Option, Some, None, refl, sym, ap, ap₂, ◌∙◌, subst, arith}
use Rattle.art_cell.specs.Bodies.{IsBody, used_count}
use Rattle.art_cell.specs.Words.{Words, byte_of, child_of, count_of, entry_at, key_byte, listed, packed, places, size}
use Rattle.art_cell.specs.declared.cells.Cell.TheVariants as cell
use Rattle.art_cell.specs.declared.cells.Node.{Node}
use Rattle.art_cell.specs.declared.cells.Layout.{Layout}
use Rattle.art_cell.specs.declared.cells.Layout.TheVariants.{Node4, Node16, Node48, Node256}
use Rattle.art_cell.specs.declared.node_kinds.Entry.{Entry}
use Rattle.art_plan.proofs.ChildPlaces.{IsPlaceOf, NameThere, words_there}
use Rattle.art_plan.proofs.WordsWithin.{past_prefix}
use Rattle.art_step.specs.Views.{IsHeader, IsIndexWord, IsWordOf}
use Rattle.art_step.specs.declared.views.Sizes.{Sizes}

-- ---- the header

-- at most as many places are in use as there are
used_few : (w : Words) (n : ℕ) → used_count w n ≤ n
used_few w zero = omega arith
used_few w (suc n) = let few = used_few w n in omega (arith, few)

-- and at most as many children listed as there are bytes
listed_few : (child : ℕ → Option ℕ) (from n : ℕ) → length (listed child from n) ≤ n
listed_few child from zero = omega arith
listed_few child from (suc n) = by_entry (entry_at child from) refl (listed_few child (from + 1) n)
  where
    by_entry : (o : Option Entry) → entry_at child from ≡ o → length (listed child (from + 1) n) ≤ n → length (listed child from (suc n)) ≤ suc n
    by_entry (Some e) is few = rw is (omega (arith, few))
    by_entry None is few = rw is (omega (arith, few))

few_children : (k : Layout) (w : Words) → IsBody k w → count_of w ≤ places k
few_children Node4 w body = body.form.few
few_children Node16 w body = body.form.few
few_children Node48 w body = let few = used_few w 48 in omega (arith, body.form.places, few)
few_children Node256 w body = let few = listed_few (child_of Node256 w) 0 256 in omega (arith, body.counted, few)

low_header : (k : Layout) (w : Words) → IsBody k w → k ≢ Node48 → w 1 < 2 ^ 16
low_header Node4 w body other = body.form.header
low_header Node16 w body other = body.form.header
low_header Node48 w body other = absurd (other refl)
low_header Node256 w body other = body.form

is_header : (k : Layout) (w : Words) → IsBody k w → IsHeader k (w 1)
is_header k w body = record { few = few_children k w body; short = body.prefix.short; low = low_header k w body }

-- ---- the index

index_byte : (w : Words) (i j : ℕ) → 10 ≤ i → j < 8 → key_byte w (8 * (i - 10) + j) ≡ byte_of (w i) j
unfolding packed
index_byte w i j late low =
    let place : 10 + (8 * (i - 10) + j) / 8 ≡ i = omega arith in
    let at : (8 * (i - 10) + j) % 8 ≡ j = omega arith in
    ap₂ (λ (p q : ℕ). byte_of (w p) q) place at

index_word : (w : Words) → IsBody Node48 w → (i : ℕ) → 10 ≤ i → i < 42 → IsIndexWord (w i)
index_word w body i late before j low = subst (λ (n : ℕ). n ≤ 48) (index_byte w i j late low) (body.form.within (8 * (i - 10) + j) (omega arith))

-- ---- all words

-- of a body whose children name what there is
pub node_forms : (z : Sizes) (n : Node) (k : Layout) (w : Words) → k ≡ n.layout → IsBody k w → NameThere z (child_of k w) → (i : ℕ) → IsWordOf z (cell.Node n) i (w i)
node_forms z n k w same body names i = record {
  header = λ m is at. let of : n ≡ m = cc in
      subst (λ (p : ℕ). IsHeader m.layout (w p)) (sym at) (subst (λ (l : Layout). IsHeader l (w 1)) (same ∙ ap (λ (o : Node). o.layout) of) (is_header k w body));
  index = λ m is big late low. let of : n ≡ m = cc in
      index_word w (subst (λ (l : Layout). IsBody l w) (same ∙ (ap (λ (o : Node). o.layout) of ∙ big)) body) i late low;
  length = λ l is. absurd (cc);
  child = λ place. words_there z k w body names i (subst (λ (l : Layout). IsPlaceOf l i) (sym same) place);
}

-- two nodes of one layout have words of the same forms
pub same_form : (z : Sizes) (m n : Node) (i x : ℕ) → m.layout ≡ n.layout → IsWordOf z (cell.Node n) i x → IsWordOf z (cell.Node m) i x
same_form z m n i x same form = record {
  header = λ o is at. let of : m ≡ o = cc in
      subst (λ (l : Layout). IsHeader l x) (sym same ∙ ap (λ (y : Node). y.layout) of) (form.header n refl at);
  index = λ o is big late low. let of : m ≡ o = cc in form.index n refl (sym same ∙ (ap (λ (y : Node). y.layout) of ∙ big)) late low;
  length = λ l is. absurd (cc);
  child = λ place. form.child (subst (λ (l : Layout). IsPlaceOf l i) same place);
}

-- behind the words of a node any may stand
pub any_behind : (z : Sizes) (n : Node) (i x : ℕ) → size n.layout ≤ i → IsWordOf z (cell.Node n) i x
any_behind z n i x high = record {
  header = λ o is at. let some = past_prefix n.layout in absurd (omega (arith, high, at, some));
  index = λ o is big late low. let of : n ≡ o = cc in
      let long : size Node48 ≤ i = subst (λ (l : Layout). size l ≤ i) (ap (λ (y : Node). y.layout) of ∙ big) high in
      absurd (omega (arith, long, low));
  length = λ l is. absurd (cc);
  child = λ place. absurd (omega (arith, place.1, high));
}
