-- The words of a layout, and 0 behind them: what stands there in a body is no part of the node.
use Rattle.std.proofs.Common.{◌≡◌, ℕ, ◌%◌, ◌^◌, ◌<◌, ◌≤◌, Bool, List, [], ◌∷◌, length, cond, eqb, Option, Some, None, refl, sym, ap, ◌∙◌, subst, inl, inr, arith, ne_eqb}
use Rattle.std.proofs.Math.Dec.{ltb}
use Rattle.std.proofs.lemmas.Bool.{cases_lt, le-ltb, lt-ltb}
use Rattle.art_cell.specs.Bodies.{Becomes, IsBody}
use Rattle.art_cell.specs.Children.{child_word}
use Rattle.art_cell.specs.Reads.{changes, written}
use Rattle.art_cell.specs.Words.{Words, child_of, count_of, prefix_of, size}
use Rattle.art_cell.specs.declared.cells.Layout.{Layout}
use Rattle.art_cell.specs.declared.cells.Link.{Link}
use Rattle.art_cell.specs.declared.cells.Write.{Write}
use Rattle.art_plan.proofs.PutWords.{Agree, changes_agree, puts_write}
use Rattle.art_plan.proofs.WordsWithin.{SameWithin, body_within, child_within, past_prefix, prefix_within}
use Rattle.art_plan.specs.Changes.{with_puts}
use Rattle.art_plan.specs.Puts.{puts_of}
use Rattle.art_step.specs.Views.{Member, words_in}
use Rattle.art_tree.specs.WordChanges.{WritesNode, at_byte}

abbrev pub cut_words : Layout → Words → Words
cut_words k w i = cond (ltb i (size k)) (w i) 0

module _ (k : Layout) (w : Words) where
  pub cut_inside : (i : ℕ) → i < size k → cut_words k w i ≡ w i
  cut_inside i low = ap (λ (b : Bool). cond b (w i) 0) (lt-ltb i (size k) low)

  pub cut_behind : (i : ℕ) → size k ≤ i → cut_words k w i ≡ 0
  cut_behind i high = ap (λ (b : Bool). cond b (w i) 0) (le-ltb i (size k) high)

  pub cut_count : count_of (cut_words k w) ≡ count_of w
  cut_count = let high = past_prefix k in ap (λ (h : ℕ). h % 512) (cut_inside 1 (omega (arith, high)))

  -- they are the same node
  same_inside : SameWithin k w (cut_words k w)
  same_inside i some low = cut_inside i low

  pub cut_body : IsBody k w → IsBody k (cut_words k w)
  cut_body body = body_within w (cut_words k w) k same_inside body fits
    where
      fits : (i : ℕ) → cut_words k w i < 2 ^ 64
      fits i = elim (cases_lt i (size k)) [
        | inl low ↦ let e = cut_inside i low in let bound = body.words i in omega (arith, e, bound)
        | inr high ↦ omega (arith, cut_behind i high)
      ]

  module _ (body : IsBody k (cut_words k w)) where
    same_outside : SameWithin k (cut_words k w) w
    same_outside i some low = sym (cut_inside i low)

    pub cut_child : (b : ℕ) → b < 256 → child_of k w b ≡ child_of k (cut_words k w) b
    cut_child b low = child_within (cut_words k w) w k b same_outside body.form low

    pub cut_prefix : prefix_of w ≡ prefix_of (cut_words k w)
    cut_prefix = prefix_within (cut_words k w) w k same_outside body

-- ---- what is written

-- another child at a byte, in maps that have the same at a byte
at_same : (f g : ℕ → Option ℕ) (byte : ℕ) (d : Option Link) (b : ℕ) → f b ≡ g b → at_byte f byte d b ≡ at_byte g byte d b
at_same f g byte (Some c) b e = ap (λ (o : Option ℕ). cond (eqb b byte) (Some (child_word c)) o) e
at_same f g byte None b e = ap (λ (o : Option ℕ). cond (eqb b byte) None o) e

module _ (k : Layout) (w after : Words) (body : IsBody k (cut_words k w)) where
  pub becomes_cut : (byte : ℕ) (d : Option Link) → Becomes k w after (at_byte (child_of k w) byte d) → Becomes k (cut_words k w) (cut_words k after) (at_byte (child_of k (cut_words k w)) byte d)
  becomes_cut byte d is =
      let now = cut_body k after is.body in record {
        body = now;
        prefix = sym (cut_prefix k after now) ∙ is.prefix ∙ cut_prefix k w body;
        children = λ b low.
            sym (cut_child k after now b low)
            ∙ is.children b low
            ∙ at_same (child_of k w) (child_of k (cut_words k w)) byte d b (cut_child k w body b low);
      }

  pub writes_cut : (p : List ℕ) → WritesNode k after p (child_of k w) → WritesNode k (cut_words k after) p (child_of k (cut_words k w))
  writes_cut p is =
      let now = cut_body k after is.body in record {
        body = now;
        prefix = sym (cut_prefix k after now) ∙ is.prefix;
        children = λ b low. sym (cut_child k after now b low) ∙ is.children b low ∙ cut_child k w body b low;
      }

-- words that are the same at a place are so after writes
written_same : (w v : Words) (writes : List Write) (p : ℕ) → w p ≡ v p → written w writes p ≡ written v writes p
written_same w v [] p e = e
written_same w v (x ∷ xs) p e = ap (λ (word : ℕ). cond (eqb x.place p) x.value word) (written_same w v xs p e)

-- and at a place that is not written
written_past : (w : Words) (writes : List Write) (p n : ℕ) → n ≤ p → ((x : Write) → Member x writes → x.place < n) → written w writes p ≡ w p
written_past w [] p n high within = refl
written_past w (x ∷ xs) p n high within =
    ap (λ (b : Bool). cond b x.value (written w xs p)) (ne_eqb x.place p (λ e. let low = within x (inl refl) in omega (arith, e, low, high)))
    ∙ written_past w xs p n high (λ y m. within y (inr m))

module _ (k : Layout) (w : Words) (writes : List Write) (exact : writes ≡ changes k w (written w writes)) where
  abbrev after : Words
  after = written w writes

  agree : Agree writes (size k) after
  agree = changes_agree k w after writes exact

  written_cut : written (cut_words k w) writes ≡ cut_words k after
  written_cut = λ j p. each p j
    where
      each : (p : ℕ) → written (cut_words k w) writes p ≡ cut_words k after p
      each p = elim (cases_lt p (size k)) [
        | inl low ↦ written_same (cut_words k w) w writes p (cut_inside k w p low) ∙ sym (cut_inside k after p low)
        | inr high ↦ written_past (cut_words k w) writes p (size k) high (λ x m. (agree.within x m).1) ∙ cut_behind k w p high ∙ sym (cut_behind k after p high)
      ]

  -- the words of a plan, put into those of the node
  pub puts_cut : (i : ℕ) (old : List ℕ) → length old ≡ size k → words_in old ≡ cut_words k w → words_in (with_puts i (puts_of i writes) old) ≡ cut_words k after
  puts_cut i old long was =
      let now : written (words_in old) writes ≡ cut_words k after = ap (λ (v : Words). written v writes) was ∙ written_cut in
      let of_old : Agree writes (length old) (written (words_in old) writes) =
      subst (λ (n : ℕ). Agree writes n (written (words_in old) writes)) (sym long) (subst (Agree writes (size k)) (sym now) (record {
        within = agree.within;
        value = λ x m. agree.value x m ∙ sym (cut_inside k after x.place (agree.within x m).1);
      })) in
      puts_write i writes old of_old ∙ now
