-- What one word after another tells of the children of a node.
use Rattle.std.proofs.Common.{◌≡◌, refl, zero, suc, ◌-◌, ◌^◌, ℕ, ◌+◌, ◌*◌, ◌/◌, ◌%◌, ◌<◌, ◌≤◌, sym, subst, ap, ◌∙◌, arith}
use Rattle.art_cell.specs.declared.cells.Layout.{Layout}
use Rattle.art_cell.specs.declared.cells.Layout.TheVariants.{Node48}
use Rattle.art_cell.specs.Bodies.{IsBody}
use Rattle.art_cell.specs.Lemmas.Entries.{nonzero_some}
use Rattle.art_cell.specs.Lemmas.Packed.{packed_is}
use Rattle.art_cell.specs.Words.{Words, size, places, first_child, child_of, key_byte, byte_of, nonzero}
use Rattle.art_node4.specs.declared.layouts.Sorted.{Sorted}
use Rattle.art_node4.specs.declared.layouts.Sorted.TheVariants.{Four, Sixteen}
use Rattle.art_node4.specs.Sorted.{layout_of, BelowAll, IsFirstFrom}
use Rattle.art_node4.proofs.NodeWords.{child_at, form_is}
use Rattle.art_node.specs.declared.searches.Sought.{Sought}
use Rattle.art_node.specs.declared.searches.Sought.TheVariants as sought
use Rattle.art_node.specs.declared.searches.SoughtFrom.{SoughtFrom}
use Rattle.art_node.specs.declared.searches.SoughtFrom.TheVariants as from
use Rattle.art_node.specs.Searches.{KeysKnown, IsNextWord, SoughtTells, KeysKnownFrom, IsNextWordFrom, IsOccupied, SoughtFromTells, IsKeyWord, HasWord, HasWordFrom}

-- ---- what is told of some words is told of fewer

pub tells_fewer : (k : Layout) (b : ℕ) (so such : Words → Type 0) (r : Sought) → ((w : Words) → such w → so w) → SoughtTells k b so r → SoughtTells k b such r
tells_fewer k b so such (sought.Keys i) some t = (t.0, t.1, λ w body is. t.2 w body (some w is))
tells_fewer k b so such (sought.Child p) some t = (t.0, t.1, λ w body is. t.2 w body (some w is))
tells_fewer k b so such sought.Nothing some t = λ w body is. t w body (some w is)

pub tells_fewer_from : (k : Layout) (low : ℕ) (so such : Words → Type 0) (r : SoughtFrom) → ((w : Words) → such w → so w) → SoughtFromTells k low so r → SoughtFromTells k low such r
tells_fewer_from k low so such (from.Keys i) some t = (t.0, t.1, λ w body is. t.2 w body (some w is))
tells_fewer_from k low so such (from.Child p b) some t = (t.0, t.1, t.2, t.3, λ w body is. t.4 w body (some w is))
tells_fewer_from k low so such from.Nothing some t = λ w body is. t w body (some w is)

-- ---- one of the eight bytes of a word

-- it is what a shift and a remainder leave
pub shifted_byte : (word i : ℕ) → i < 8 → word / 2 ^ (8 * (7 - i)) % 256 ≡ byte_of word i
shifted_byte word zero low = refl
shifted_byte word (suc zero) low = refl
shifted_byte word (suc (suc zero)) low = refl
shifted_byte word (suc (suc (suc zero))) low = refl
shifted_byte word (suc (suc (suc (suc zero)))) low = refl
shifted_byte word (suc (suc (suc (suc (suc zero))))) low = refl
shifted_byte word (suc (suc (suc (suc (suc (suc zero)))))) low = refl
shifted_byte word (suc (suc (suc (suc (suc (suc (suc zero))))))) low = refl
shifted_byte word (suc (suc (suc (suc (suc (suc (suc (suc i)))))))) low = absurd (omega arith)

-- ---- nodes with sorted bytes

next_is_key_word : (s : Sorted) (b header number word : ℕ) (w : Words) → IsNextWord (layout_of s) b header number word w → IsKeyWord b header number word w
next_is_key_word Four b header number word w next = record { is_header = next.is_header; is_word = next.is_word; below = next.known }
next_is_key_word Sixteen b header number word w next = record { is_header = next.is_header; is_word = next.is_word; below = next.known }

next_is_key_word_from : (s : Sorted) (low header number word : ℕ) (w : Words) → IsNextWordFrom (layout_of s) low header number word w → IsKeyWord low header number word w
next_is_key_word_from Four low header number word w next = record { is_header = next.is_header; is_word = next.is_word; below = next.known }
next_is_key_word_from Sixteen low header number word w next = record { is_header = next.is_header; is_word = next.is_word; below = next.known }

-- what one word of key bytes tells is told of the word that was asked for
pub tells_next : (s : Sorted) (k : Layout) (b header number word : ℕ) (r : Sought) → k ≡ layout_of s
    → SoughtTells (layout_of s) b (IsKeyWord b header number word) r → SoughtTells k b (IsNextWord k b header number word) r
tells_next s k b header number word r is t =
    subst (λ (l : Layout). SoughtTells l b (IsNextWord l b header number word) r) (sym is)
    (tells_fewer (layout_of s) b _ _ r (next_is_key_word s b header number word) t)

pub tells_next_from : (s : Sorted) (k : Layout) (low header number word : ℕ) (r : SoughtFrom) → k ≡ layout_of s
    → SoughtFromTells (layout_of s) low (IsKeyWord low header number word) r → SoughtFromTells k low (IsNextWordFrom k low header number word) r
tells_next_from s k low header number word r is t =
    subst (λ (l : Layout). SoughtFromTells l low (IsNextWordFrom l low header number word) r) (sym is)
    (tells_fewer_from (layout_of s) low _ _ r (next_is_key_word_from s low header number word) t)

pub below_known : (s : Sorted) (b : ℕ) (w : Words) (i : ℕ) → BelowAll w (8 * i) b → KeysKnown (layout_of s) b w i
below_known Four b w i below = below
below_known Sixteen b w i below = below

pub below_known_from : (s : Sorted) (low : ℕ) (w : Words) (i : ℕ) → BelowAll w (8 * i) low → KeysKnownFrom (layout_of s) low w i
below_known_from Four low w i below = below
below_known_from Sixteen low w i below = below

-- and there are two of them at most
pub keys_few : (s : Sorted) (i : ℕ) → 8 * i < places (layout_of s) → i < 2
keys_few Four i inside = omega (arith, inside)
keys_few Sixteen i inside = omega (arith, inside)

-- a word of key bytes is one of the cell
pub keys_inside : (s : Sorted) (i : ℕ) → 8 * i < places (layout_of s) → (i < 32) × (10 + i < size (layout_of s))
keys_inside Four i low = (omega arith, omega arith)
keys_inside Sixteen i low = (omega arith, omega arith)

-- a key byte stands in the word of its eight
pub key_in : (w : Words) (number i word : ℕ) → 8 * number ≤ i → i < 8 * number + 8 → w (10 + number) ≡ word → key_byte w i ≡ byte_of word (i % 8)
key_in w number i word low high is = packed_is w 10 i word (sym is ∙ ap w (omega arith))

-- the child of the byte that was found
pub child_found : (s : Sorted) (w : Words) (b i found : ℕ) → IsBody (layout_of s) w → IsFirstFrom w b i found → child_of (layout_of s) w found ≡ nonzero (w (first_child (layout_of s) + i))
child_found s w b i found body first =
    let form = form_is s w body.form in
    child_at s w b i found body first ∙ sym (nonzero_some (w (first_child (layout_of s) + i)) (form.some i first.used))

-- and its place has it
occupied : (s : Sorted) (w : Words) (p : ℕ) → 0 < w p → IsOccupied (layout_of s) w p
occupied Four w p some = some
occupied Sixteen w p some = some

pub found_occupied : (s : Sorted) (w : Words) (b i found p : ℕ) → IsBody (layout_of s) w → IsFirstFrom w b i found → first_child (layout_of s) + i ≡ p → IsOccupied (layout_of s) w p
found_occupied s w b i found p body first at =
    let form = form_is s w body.form in
    occupied s w p (subst (λ (j : ℕ). 0 < w j) at (form.some i first.used))

-- ---- nodes with an index

-- the place that an entry names has a child
pub entry_occupied : (w : Words) (b entry p : ℕ) → IsBody Node48 w → b < 256 → key_byte w b ≡ entry → (entry ≡ 0 → ⊥) → 41 + entry ≡ p → 0 < w p
entry_occupied w b zero p body low is some at = absurd (some refl)
entry_occupied w b (suc e) p body low is some at = subst (λ (i : ℕ). 0 < w i) (omega arith) ((body.form.named b e low is).1)

pub next_has_word : (b header number word : ℕ) (w : Words) → IsNextWord Node48 b header number word w → HasWord b word w
next_has_word b header number word w next = sym (ap (λ (i : ℕ). w (10 + i)) next.known) ∙ next.is_word

pub next_has_word_from : (low header number word : ℕ) (w : Words) → IsNextWordFrom Node48 low header number word w → HasWordFrom low number word w
next_has_word_from low header number word w next = (next.is_word, next.known)

-- a byte's entry stands in the word of its eight
pub entry_is : (w : Words) (b word : ℕ) → HasWord b word w → key_byte w b ≡ byte_of word (b % 8)
entry_is w b word has = packed_is w 10 b word (sym has)

-- one of the eight bytes of an index word
pub has_word : (w : Words) (number b word : ℕ) → 8 * number ≤ b → b < 8 * number + 8 → w (10 + number) ≡ word → HasWord b word w
has_word w number b word low high is = ap w (omega arith) ∙ is
