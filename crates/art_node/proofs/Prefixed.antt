-- Words with another prefix are a node with the same children.
use Rattle.std.proofs.Common.{◌≡◌, ℕ, zero, suc, ◌+◌, ◌*◌, ◌/◌, ◌%◌, ◌^◌, ◌<◌, ◌≤◌, ◌==◌, if◌then◌else◌, cond, eqb, List, length, get_or, map, find, Option, None, refl, sym, ap, ap₂, ◌∙◌, inl, inr, arith, ne_eqb}
use Rattle.std.proofs.lemmas.Bool.{cases_lt}
use Rattle.std.proofs.lemmas.List.{get_or_past}
use Rattle.std.proofs.lemmas.List.FromFn.{get_or-map-range_with_len, fill_by_all}
use Rattle.std.proofs.lemmas.Nat.{shr-shr}
use Rattle.std.specs.List.{range_with_len}
use Rattle.std.specs.Option.{option_and_then}
use Rattle.art_cell.specs.declared.cells.Layout.{Layout}
use Rattle.art_cell.specs.declared.cells.Layout.TheVariants.{Node4, Node16, Node48, Node256}
use Rattle.art_cell.specs.Bodies.{HasForm, HasPrefix, IsBody, IsIndexed, IsSorted, used_count}
use Rattle.art_cell.specs.Leaves.{IsLeaf, leaf_word, word_of_bytes}
use Rattle.art_cell.specs.Lemmas.LeafWords.{words_mean_leaf}
use Rattle.art_cell.specs.Lemmas.Packed.{packed_same}
use Rattle.art_cell.specs.Words.{Words, child_of, count_of, indexed_child, is_used, key_byte, listed, nonzero, packed, prefix_len, prefix_of, size, sorted_child}
use Rattle.art_node.specs.Prefixes.{IsNodeOf}

-- the header has the length of this prefix, the eight words after it have its bytes, and all else is as it was
pub record Prefixes (w after : Words) (p : List ℕ) : Type 0 where
  pub header : after 1 ≡ w 1 / 65536 * 65536 + 512 * length p + w 1 % 512
  pub words : (i : ℕ) → i < 8 → after (2 + i) ≡ word_of_bytes p (8 * i)
  pub rest : (place : ℕ) → 10 ≤ place → after place ≡ w place
  pub fits : (place : ℕ) → after place < 2 ^ 64
  pub short : length p ≤ 64
  pub bytes : (i : ℕ) → get_or p i 0 < 256

module _ (w after : Words) (p : List ℕ) (is : Prefixes w after p) where
  same_count : count_of after ≡ count_of w
  same_count = omega (arith, is.header, is.short)

  len : prefix_len after ≡ length p
  len = omega (arith, is.header, is.short)

  use_of : (q : ℕ) → is_used after q ≡ is_used w q
  use_of q =
      let high : after 1 / 65536 ≡ w 1 / 65536 = omega (arith, is.header, is.short) in
      ap (λ (n : ℕ). n % 2) (sym (shr-shr (after 1) 16 q) ∙ ap (λ (n : ℕ). n / 2 ^ q) high ∙ shr-shr (w 1) 16 q)

  keys : packed after 10 ≡ packed w 10
  keys = λ j i. packed_same w after 10 i (is.rest (10 + i / 8) (omega arith)) j

  key_of : (i : ℕ) → key_byte after i ≡ key_byte w i
  key_of i = λ j. keys j i

  -- ---- its prefix

  -- as if it were the key of a leaf
  abbrev leafy : Words
  leafy place = if place == 0 then 0 else if place == 1 then length p else after place

  past_length : (place : ℕ) → 2 ≤ place → leafy place ≡ after place
  past_length place low = rw (ne_eqb place 0 (λ e. omega arith), ne_eqb place 1 (λ e. omega arith)) refl

  is_leaf : IsLeaf leafy p 0
  is_leaf = words_mean_leaf leafy p 0 each is.bytes is.short
    where
      each : (i : ℕ) → i < 10 → leafy i ≡ leaf_word p 0 i
      each zero low = refl
      each (suc zero) low = refl
      each (suc (suc j)) low = past_length (suc (suc j)) (omega arith) ∙ ap after (two_more j) ∙ is.words j (omega arith)
        where
          two_more : (n : ℕ) → suc (suc n) ≡ 2 + n
          two_more n = omega arith

  byte : (i : ℕ) → i < 64 → packed after 2 i ≡ get_or p i 0
  byte i low =
      sym (packed_same after leafy 2 i (past_length (2 + i / 8) (omega arith)))
      ∙ elim (cases_lt i (length p)) [
        | inl inside ↦
            sym (get_or-map-range_with_len (packed leafy 2) 0 (length p) i i 0 inside (omega arith))
            ∙ ap (λ (l : List ℕ). get_or l i 0) (sym (ap (λ (n : ℕ). map (packed leafy 2) (range_with_len 0 n)) is_leaf.len) ∙ is_leaf.key)
        | inr past ↦ is_leaf.unused i past low ∙ sym (get_or_past p i 0 past)
      ]

  prefix : prefix_of after ≡ p
  prefix = ap (λ (n : ℕ). map (packed after 2) (range_with_len 0 n)) len ∙ sym (fill_by_all (packed after 2) p (length p) 0 refl (λ i low. sym (byte i (omega (arith, low, is.short)))))

  has_prefix : HasPrefix after
  has_prefix = record {
    short = omega (arith, len, is.short);
    unused = λ i past low. byte i low ∙ get_or_past p i 0 (omega (arith, past, len));
  }

  -- ---- its form

  sorted : (slots first : ℕ) → 10 ≤ first → IsSorted slots first w → IsSorted slots first after
  sorted slots first low f = record {
    header = omega (arith, is.header, is.short, f.header);
    few = omega (arith, same_count, f.few);
    ascends = λ i j lt high. let up = f.ascends i j lt (omega (arith, high, same_count)) in omega (arith, key_of i, key_of j, up);
    some = λ i high. let there = f.some i (omega (arith, high, same_count)) in omega (arith, is.rest (first + i) (omega arith), there);
    no_byte = λ i past high. key_of i ∙ f.no_byte i (omega (arith, past, same_count)) high;
    no_child = λ i past high. is.rest (first + i) (omega arith) ∙ f.no_child i (omega (arith, past, same_count)) high;
  }

  same_used : (n : ℕ) → used_count after n ≡ used_count w n
  same_used zero = refl
  same_used (suc n) = ap₂ (λ (a b : ℕ). a + b) (use_of n) (same_used n)

  indexed : IsIndexed w → IsIndexed after
  indexed f = record {
    within = λ b low. let few = f.within b low in omega (arith, key_of b, few);
    once = λ a b a-low b-low some same. f.once a b a-low b-low (omega (arith, key_of a, some)) (sym (key_of a) ∙ same ∙ key_of b);
    named = λ b q low names. let there = f.named b q low (sym (key_of b) ∙ names) in (use_of q ∙ there.0, omega (arith, is.rest (42 + q) (omega arith), there.1));
    used = λ q low in-use. let there = f.used q low (sym (use_of q) ∙ in-use) in (there.0, there.1, key_of there.0 ∙ there.2);
    free = λ q low unused. is.rest (42 + q) (omega arith) ∙ f.free q low (sym (use_of q) ∙ unused);
    places = same_count ∙ f.places ∙ sym (same_used 48);
  }

  form : (k : Layout) → HasForm k w → HasForm k after
  form Node4 f = sorted 4 11 (omega arith) f
  form Node16 f = sorted 16 12 (omega arith) f
  form Node48 f = indexed f
  form Node256 f = omega (arith, is.header, is.short, f)

  -- ---- its children

  same_sorted : (first b : ℕ) → 10 ≤ first → sorted_child first after b ≡ sorted_child first w b
  same_sorted first b low =
      let child : (i : ℕ) → after (first + i) ≡ w (first + i) = λ i. is.rest (first + i) (omega arith) in
      λ j. option_and_then (λ i. nonzero (child i j)) (find (λ i. eqb (keys j i) b) (range_with_len 0 (same_count j)))

  same_indexed : (b : ℕ) → indexed_child after b ≡ indexed_child w b
  same_indexed b = ap (λ k. cond (eqb k 0) None (nonzero (after (41 + k)))) (key_of b) ∙ ap (λ c. cond (eqb (key_byte w b) 0) None (nonzero c)) (is.rest (41 + key_byte w b) (omega arith))

  same_child : (k : Layout) (b : ℕ) → child_of k after b ≡ child_of k w b
  same_child Node4 b = same_sorted 11 b (omega arith)
  same_child Node16 b = same_sorted 12 b (omega arith)
  same_child Node48 b = same_indexed b
  same_child Node256 b = ap nonzero (is.rest (10 + b) (omega arith))

  pub prefixed : (k : Layout) → IsBody k w → IsNodeOf k after p (child_of k w)
  prefixed k body = record {
    body = record {
      words = is.fits;
      prefix = has_prefix;
      form = form k body.form;
      counted = same_count ∙ body.counted ∙ ap (λ (child : ℕ → Option ℕ). length (listed child 0 256)) (λ j b. sym (same_child k b) j);
    };
    prefix = prefix;
    children = λ b low. same_child k b;
  }

-- a cell has more words than header and prefix
pub past_prefix : (k : Layout) → 10 ≤ size k
past_prefix Node4 = omega arith
past_prefix Node16 = omega arith
past_prefix Node48 = omega arith
past_prefix Node256 = omega arith
