-- The index of a node of 48 places, and the children that it names.
use Rattle.std.proofs.Common.{◌≡◌, ◌≢◌, ◌⊎◌, ℕ, ◌+◌, ◌/◌, ◌%◌, ◌<◌, ◌≤◌, List, [], ◌∷◌, ◌++◌, length, length-append, Option, Some, None, refl, sym, ap, ◌∙◌, inl, inr, arith, ne_eqb}
use Rattle.std.proofs.lemmas.Bool.{cases_lt}
use Rattle.art_cell.specs.declared.cells.Layout.TheVariants.{Node48}
use Rattle.art_cell.specs.declared.node_kinds.Entry.{Entry}
use Rattle.art_cell.specs.Lemmas.Entries.{listed_with, listed_without}
use Rattle.art_cell.specs.Words.{Words, byte_of, packed, key_byte, nonzero, indexed_child, listed}
use Rattle.art_cell.specs.Bodies.{IsBody}
use Rattle.art_cell.specs.Reads.{word_read, Agrees, NoneFrom}

-- the entry of a byte stands in the word of its eight bytes
pub key_byte_is : (w : Words) (b : ℕ) → key_byte w b ≡ byte_of (w (10 + b / 8)) (b % 8)
unfolding packed
key_byte_is w b = refl

pub no_child_at_none : (w : Words) (b : ℕ) → key_byte w b ≡ 0 → indexed_child w b ≡ None
no_child_at_none w b none = rw (none) refl

pub nonzero_none : (c : ℕ) → c ≡ 0 → nonzero c ≡ None
nonzero_none c e = rw (e) refl

pub nonzero_some : (c : ℕ) → c ≢ 0 → nonzero c ≡ Some c
nonzero_some c apart = rw (ne_eqb c 0 apart) refl

pub child_at_entry : (w : Words) (b entry : ℕ) → key_byte w b ≡ entry → entry ≢ 0 → indexed_child w b ≡ nonzero (w (41 + entry))
child_at_entry w b entry is apart = rw (is, ne_eqb entry 0 apart) refl

-- an entry and what stands at its place, as they are read
pub entry_read : (reads : List (Option ℕ)) (w : Words) (b word : ℕ) → Agrees reads w → word_read reads (10 + b / 8) ≡ Some word → key_byte w b ≡ byte_of word (b % 8)
entry_read reads w b word agrees read = key_byte_is w b ∙ ap (λ (x : ℕ). byte_of x (b % 8)) (agrees (10 + b / 8) word read)

pub child_read : (reads : List (Option ℕ)) (w : Words) (b word entry child : ℕ) → Agrees reads w → word_read reads (10 + b / 8) ≡ Some word → entry ≡ byte_of word (b % 8) → entry ≢ 0 → word_read reads (41 + entry) ≡ Some child
    → indexed_child w b ≡ nonzero child
child_read reads w b word entry child agrees read is apart there =
    child_at_entry w b entry (entry_read reads w b word agrees read ∙ sym is) apart ∙ ap nonzero (agrees (41 + entry) child there)

-- an entry that names no place is that of no body
pub entry_within : (w : Words) (b entry : ℕ) → IsBody Node48 w → b < 256 → key_byte w b ≡ entry → entry ≤ 48
entry_within w b entry body byte is = omega (arith, body.form.within b byte)

-- no child of the bytes before one, nor of that one
pub none_more : (child : ℕ → Option ℕ) (low high end : ℕ) → NoneFrom child low high → child high ≡ None → end ≤ high + 1 → NoneFrom child low end
none_more child low high end none here most = λ b l h.
    elim (cases_lt b high) [
      | inl lt ↦ none b l lt
      | inr ge ↦ ap child (omega arith) ∙ here
    ]

-- a list with what a byte has at its end, or without
abbrev pub ListsByte : (ℕ → Option ℕ) → ℕ → List Entry → List Entry → Type 0
ListsByte child b xs ys = ((c : ℕ) × (child b ≡ Some c) × (ys ≡ xs ++ record { byte = b; child = c } ∷ [])) ⊎ ((child b ≡ None) × (ys ≡ xs))

pub listed_to : (child : ℕ → Option ℕ) (b end : ℕ) (xs ys : List Entry) → xs ≡ listed child 0 b → b + 1 ≡ end → ListsByte child b xs ys → ys ≡ listed child 0 end
listed_to child b end xs ys so_far e (inl there) =
    there.2 ∙ ap (λ (zs : List Entry). zs ++ record { byte = b; child = there.0 } ∷ []) so_far ∙ sym (listed_with child 0 b b there.0 (omega arith) there.1) ∙ ap (listed child 0) e
listed_to child b end xs ys so_far e (inr none) =
    none.1 ∙ so_far ∙ sym (listed_without child 0 b b (omega arith) none.0) ∙ ap (listed child 0) e

pub lists_few : (child : ℕ → Option ℕ) (b : ℕ) (xs ys : List Entry) → length xs ≤ b → ListsByte child b xs ys → length ys ≤ b + 1
lists_few child b xs ys few (inl there) = omega (arith, ap length there.2, length-append xs (record { byte = b; child = there.0 } ∷ []))
lists_few child b xs ys few (inr none) = omega (arith, ap length none.1)
