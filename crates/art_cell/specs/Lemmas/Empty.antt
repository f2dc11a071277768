-- A node with a prefix and no child.
use Rattle.std.proofs.Common.{◌≡◌, ℕ, zero, suc, ◌+◌, ◌*◌, ◌/◌, ◌%◌, ◌^◌, ◌<◌, ◌≤◌, List, length, get_or, set, replicate, get_or-set_other, None, refl, sym, ap, ap₂, ◌∙◌, inl, inr, arith}
use Rattle.std.proofs.Math.Nat.{pow-le-pow_right, div-eq_of_lt}
use Rattle.std.proofs.lemmas.Bool.{cases_lt}
use Rattle.art_cell.specs.declared.cells.Layout.{Layout}
use Rattle.art_cell.specs.declared.cells.Layout.TheVariants.{Node4, Node16, Node48, Node256}
use Rattle.art_cell.specs.Words.{Words, size, count_of, prefix_len, is_used, byte_of, packed, prefix_of, key_byte, child_of, sorted_child}
use Rattle.art_cell.specs.Bodies.{HasPrefix, IsSorted, used_count, IsIndexed, HasForm, IsBody}
use Rattle.art_cell.specs.Lemmas.Headers.{SamePrefix, prefix_kept, same_prefix_of}
use Rattle.art_cell.specs.Lemmas.Entries.{listed_none}

-- the prefix of a node, and 0 in all other words of the layout
pub record IsEmpty (k : Layout) (w after : Words) : Type 0 where
  pub header : after 1 ≡ 512 * prefix_len w
  pub prefix : (place : ℕ) → 2 ≤ place → place < 10 → after place ≡ w place
  pub others : (place : ℕ) → 10 ≤ place → place < size k → after place ≡ 0
  pub version : after 0 ≡ 0
  pub past : (place : ℕ) → size k ≤ place → after place < 2 ^ 64

zero_byte : (i : ℕ) → byte_of 0 i ≡ 0
zero_byte i = omega arith

no_key : (k : Layout) (w after : Words) → IsEmpty k w after → (i : ℕ) → 10 + i / 8 < size k → key_byte after i ≡ 0
unfolding packed
no_key k w after empty i low = ap (λ (word : ℕ). byte_of word (i % 8)) (empty.others (10 + i / 8) (omega arith) low) ∙ zero_byte (i % 8)

same_prefix : (k : Layout) (w after : Words) → IsEmpty k w after → SamePrefix w after
same_prefix k w after empty = record {
  len = ap (λ (h : ℕ). h / 512 % 128) empty.header ∙ whole (prefix_len w) (omega arith);
  words = empty.prefix;
}
  where
    whole : (n : ℕ) → n < 128 → 512 * n / 512 % 128 ≡ n
    whole n low = omega arith

no_count : (k : Layout) (w after : Words) → IsEmpty k w after → count_of after ≡ 0
no_count k w after empty = ap (λ (h : ℕ). h % 512) empty.header ∙ omega arith

small_header : (k : Layout) (w after : Words) → IsEmpty k w after → after 1 < 2 ^ 16
small_header k w after empty = omega (arith, empty.header)

unused_bit : (h k : ℕ) → h < 2 ^ 16 → h / 2 ^ (16 + k) % 2 ≡ 0
unused_bit h k low =
    let wide : 2 ^ 16 ≤ 2 ^ (16 + k) = pow-le-pow_right {n = 2} (omega arith) {i = 16} {j = 16 + k} (omega arith) in
    let none : h / 2 ^ (16 + k) ≡ 0 = div-eq_of_lt {n = h} {m = 2 ^ (16 + k)} (omega arith) in
    ap (λ (n : ℕ). n % 2) none

sorted_empty : (k : Layout) (slots first : ℕ) (w after : Words) → 10 ≤ first → first + slots ≡ size k → IsEmpty k w after → IsSorted slots first after
sorted_empty k slots first w after low all empty =
    let none = no_count k w after empty in
    record {
      header = small_header k w after empty;
      few = omega (arith, none);
      ascends = λ i j lt high. absurd (omega (arith, none));
      some = λ i high. absurd (omega (arith, none));
      no_byte = λ i past high. no_key k w after empty i (omega arith);
      no_child = λ i past high. empty.others (first + i) (omega arith) (omega arith);
    }

none_used : (w : Words) (n : ℕ) → ((p : ℕ) → is_used w p ≡ 0) → used_count w n ≡ 0
none_used w zero unused = refl
none_used w (suc n) unused = omega (arith, unused n, none_used w n unused)

indexed_empty : (w after : Words) → IsEmpty Node48 w after → IsIndexed after
indexed_empty w after empty = record {
  within = λ b low. omega (arith, no_entry b low);
  once = λ a b a-low b-low some same. absurd (omega (arith, no_entry a a-low));
  named = λ b p low is. absurd (omega (arith, no_entry b low));
  used = λ p low is. absurd (omega (arith, unused p));
  free = λ p low is. empty.others (42 + p) (omega arith) (omega arith);
  places = no_count Node48 w after empty ∙ sym (none_used after 48 unused);
}
  where
    no_entry : (b : ℕ) → b < 256 → key_byte after b ≡ 0
    no_entry b low = no_key Node48 w after empty b (omega arith)

    unused : (p : ℕ) → is_used after p ≡ 0
    unused p = unused_bit (after 1) p (small_header Node48 w after empty)

form_empty : (k : Layout) (w after : Words) → IsEmpty k w after → HasForm k after
form_empty Node4 w after empty = sorted_empty Node4 4 11 w after (omega arith) refl empty
form_empty Node16 w after empty = sorted_empty Node16 16 12 w after (omega arith) refl empty
form_empty Node48 w after empty = indexed_empty w after empty
form_empty Node256 w after empty = small_header Node256 w after empty

no_sorted_child : (k : Layout) (first : ℕ) (w after : Words) (b : ℕ) → IsEmpty k w after → sorted_child first after b ≡ None
no_sorted_child k first w after b empty = rw (no_count k w after empty) refl

pub no_child : (k : Layout) (w after : Words) (b : ℕ) → b < 256 → IsEmpty k w after → child_of k after b ≡ None
no_child Node4 w after b low empty = no_sorted_child Node4 11 w after b empty
no_child Node16 w after b low empty = no_sorted_child Node16 12 w after b empty
no_child Node48 w after b low empty = rw (no_key Node48 w after empty b (omega arith)) refl
no_child Node256 w after b low empty = rw (empty.others (10 + b) (omega arith) (omega arith)) refl

pub empty_body : (k : Layout) (w after : Words) → HasPrefix w → ((p : ℕ) → w p < 2 ^ 64) → IsEmpty k w after → IsBody k after
empty_body k w after has words empty = record {
  words = fits;
  prefix = prefix_kept w after (same_prefix k w after empty) has;
  form = form_empty k w after empty;
  counted = no_count k w after empty ∙ sym (ap length (listed_none (child_of k after) 0 256 (λ b low high. no_child k w after b high empty)));
}
  where
    other_fits : (p : ℕ) → 10 ≤ p → after p < 2 ^ 64
    other_fits p low =
        elim (cases_lt p (size k)) [
          | inl within ↦ omega (arith, empty.others p low within)
          | inr beyond ↦ empty.past p beyond
        ]

    fits : (p : ℕ) → after p < 2 ^ 64
    fits zero = omega (arith, empty.version)
    fits (suc zero) = omega (arith, small_header k w after empty)
    fits (suc (suc p)) =
        elim (cases_lt p 8) [
          | inl low ↦ omega (arith, empty.prefix (suc (suc p)) (omega arith) (omega arith), words (suc (suc p)))
          | inr high ↦ other_fits (suc (suc p)) (omega arith)
        ]

pub empty_prefix : (k : Layout) (w after : Words) → HasPrefix w → IsEmpty k w after → prefix_of after ≡ prefix_of w
empty_prefix k w after has empty = same_prefix_of w after (same_prefix k w after empty) has

-- ---- nodes whose prefix is in one word

-- a node with a prefix of eight bytes at most, and 0 in all words after it
pub short_prefix_body : (k : Layout) (w : Words) (len : ℕ) → len ≤ 8 → w 0 ≡ 0 → w 1 ≡ 512 * len → w 2 < 2 ^ 64 → ((i : ℕ) → len ≤ i → i < 8 → byte_of (w 2) i ≡ 0) → ((p : ℕ) → 3 ≤ p → w p ≡ 0) → IsBody k w
unfolding packed
short_prefix_body k w len few version header fits first zeros =
    empty_body k w w (record { short = omega (arith, same, few); unused = unused }) words record {
      header = omega (arith, header, same);
      prefix = λ place low high. refl;
      others = λ place low within. zeros place (omega arith);
      version = version;
      past = λ place beyond. words place;
    }
  where
    same : prefix_len w ≡ len
    same = omega (arith, header, few)

    words : (p : ℕ) → w p < 2 ^ 64
    words zero = omega (arith, version)
    words (suc zero) = omega (arith, header, few)
    words (suc (suc zero)) = fits
    words (suc (suc (suc p))) = omega (arith, zeros (suc (suc (suc p))) (omega arith))

    unused : (i : ℕ) → prefix_len w ≤ i → i < 64 → packed w 2 i ≡ 0
    unused i past high =
        elim (cases_lt i 8) [
          | inl here ↦
              let at : 2 + i / 8 ≡ 2 = omega arith in
              let place : i % 8 ≡ i = omega arith in
              ap₂ (λ (p j : ℕ). byte_of (w p) j) at place ∙ first i (omega (arith, past, same)) here
          | inr after ↦ ap (λ (word : ℕ). byte_of word (i % 8)) (zeros (2 + i / 8) (omega arith)) ∙ zero_byte (i % 8)
        ]

-- words that are all 0 are a node with no prefix and no child
pub zero_body : (k : Layout) (w : Words) → ((p : ℕ) → w p ≡ 0) → IsBody k w
zero_body k w zeros =
    short_prefix_body k w 0 (omega arith) (zeros 0) (zeros 1) (omega (arith, zeros 2)) (λ i low high. ap (λ (word : ℕ). byte_of word i) (zeros 2) ∙ zero_byte i) (λ p low. zeros p)

wide : (k : Layout) → 15 ≤ size k
wide Node4 = omega arith
wide Node16 = omega arith
wide Node48 = omega arith
wide Node256 = omega arith

pub cleared : (k : Layout) (w : Words) → ((p : ℕ) → w p < 2 ^ 64) → ((p : ℕ) → p < size k → w p ≡ 0) → IsEmpty k (λ p. 0) w
cleared k w words zeros =
    let some = wide k in
    record {
      header = zeros 1 (omega arith);
      prefix = λ place low high. zeros place (omega arith);
      others = λ place low within. zeros place within;
      version = zeros 0 (omega arith);
      past = λ place beyond. words place;
    }

-- so are words that are 0 as far as the layout goes
pub cleared_body : (k : Layout) (w : Words) → ((p : ℕ) → w p < 2 ^ 64) → ((p : ℕ) → p < size k → w p ≡ 0) → IsBody k w
cleared_body k w words zeros =
    empty_body k (λ p. 0) w (zero_body k (λ p. 0) (λ p. refl)).prefix (λ p. omega arith) (cleared k w words zeros)

pub no_words : (n p : ℕ) → get_or {A = ℕ} (replicate n 0) p 0 ≡ 0
no_words zero p = refl
no_words (suc n) zero = refl
no_words (suc n) (suc p) = no_words n p

-- the words of a node with such a prefix and no child
abbrev pub short_prefix_words : ℕ → ℕ → List ℕ
short_prefix_words len first = set (set (replicate 266 0) 1 (512 * len)) 2 first

-- they are a body
pub short_prefix_words_body : (k : Layout) (len first : ℕ) → len ≤ 8 → first < 2 ^ 64 → ((i : ℕ) → len ≤ i → i < 8 → byte_of first i ≡ 0) → IsBody k (λ p. get_or (short_prefix_words len first) p 0)
short_prefix_words_body k len first few fits bytes = short_prefix_body k (λ p. get_or (short_prefix_words len first) p 0) len few refl refl fits bytes after
  where
    after : (p : ℕ) → 3 ≤ p → get_or (short_prefix_words len first) p 0 ≡ 0
    after p low =
        get_or-set_other (set (replicate 266 0) 1 (512 * len)) 2 p first 0 (λ e. omega arith)
        ∙ get_or-set_other (replicate 266 0) 1 p (512 * len) 0 (λ e. omega arith)
        ∙ no_words 266 p

-- and so are those of a prefix of one byte
pub one_byte_body : (k : Layout) (byte : ℕ) → byte < 256 → IsBody k (λ p. get_or (short_prefix_words 1 (byte * 72057594037927936)) p 0)
one_byte_body k byte small = short_prefix_words_body k 1 (byte * 72057594037927936) (omega arith) (omega arith) no_more
  where
    no_more : (i : ℕ) → 1 ≤ i → i < 8 → byte_of (byte * 72057594037927936) i ≡ 0
    no_more zero low high = absurd (omega arith)
    no_more (suc zero) low high = omega arith
    no_more (suc (suc zero)) low high = omega arith
    no_more (suc (suc (suc zero))) low high = omega arith
    no_more (suc (suc (suc (suc zero)))) low high = omega arith
    no_more (suc (suc (suc (suc (suc zero))))) low high = omega arith
    no_more (suc (suc (suc (suc (suc (suc zero)))))) low high = omega arith
    no_more (suc (suc (suc (suc (suc (suc (suc zero))))))) low high = omega arith
    no_more (suc (suc (suc (suc (suc (suc (suc (suc i)))))))) low high = absurd (omega arith)
