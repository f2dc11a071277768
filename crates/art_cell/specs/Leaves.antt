-- The words of a leaf: its value, the length of its key, and the bytes of the key, eight a word. A leaf has no version.
use Rattle.std.specs.Prelude.{◌≡◌, ℕ, zero, suc, ◌+◌, ◌*◌, ◌/◌, ◌%◌, ◌<◌, ◌≤◌, List, [], ◌∷◌, length, map, get_or, nat_lt, if◌then◌else◌, Option, Some, None}
use Rattle.std.specs.Option.{option_map, option_and_then}
use Rattle.std.specs.List.{range_with_len}
use Rattle.std.specs.Int.{w64, from_be_bytes}
use Rattle.art_cell.specs.declared.cells.Write.{Write}
use Rattle.art_cell.specs.Words.{Words, byte_of, packed}
use Rattle.art_cell.specs.Reads.{word_read}

-- the bytes of a leaf's key, packed from place 2 on
abbrev pub leaf_key : Words → List ℕ
leaf_key w = map (packed w 2) (range_with_len 0 (w 1))

-- the words are those of a leaf with this key and value: bytes after the key's are 0
pub record IsLeaf (w : Words) (k : List ℕ) (v : ℕ) : Type 0 where
  pub value : w 0 ≡ v
  pub len : w 1 ≡ length k
  pub key : leaf_key w ≡ k
  pub unused : (i : ℕ) → length k ≤ i → i < 64 → packed w 2 i ≡ 0

-- the word of eight bytes from one on, with 0 after the last
abbrev pub word_of_bytes : List ℕ → ℕ → ℕ
word_of_bytes bytes from = from_be_bytes w64 (map (λ i. get_or bytes (from + i) 0) (range_with_len 0 8))

-- the word at a place of the leaf with this key and value
abbrev pub leaf_word : List ℕ → ℕ → ℕ → ℕ
leaf_word key value zero = value
leaf_word key value (suc zero) = length key
leaf_word key value (suc (suc j)) = word_of_bytes key (8 * j)

-- the ten words of a leaf, in ascending place
abbrev pub leaf_writes : List ℕ → ℕ → List Write
leaf_writes key value = map (λ place. record { place = place; value = leaf_word key value place }) (range_with_len 0 10)

-- byte i of the key, as it was read
abbrev pub key_byte_read : List (Option ℕ) → ℕ → Option ℕ
key_byte_read reads i = option_map (λ word. byte_of word (i % 8)) (word_read reads (2 + i / 8))

-- so many bytes of the key from one on, as they were read
abbrev pub key_read : List (Option ℕ) → ℕ → ℕ → Option (List ℕ)
key_read reads from zero = Some []
key_read reads from (suc n) =
    option_and_then (λ b. option_map (λ bytes. b ∷ bytes) (key_read reads (from + 1) n)) (key_byte_read reads from)

-- a key of a length that a leaf can have
abbrev pub key_of_length : List (Option ℕ) → ℕ → Option (List ℕ)
key_of_length reads n = if nat_lt 64 n then None else key_read reads 0 n

-- the key and the value that the words read mean, where the length is at most 64 and no word that is needed is missing
abbrev pub leaf_read : List (Option ℕ) → Option (List ℕ × ℕ)
leaf_read reads =
    option_and_then (λ value. option_map (λ key. (key, value)) (option_and_then (key_of_length reads) (word_read reads 1))) (word_read reads 0)

-- the key and the value are what words mean whose key has at most 64 bytes
pub record MeansLeaf (w : Words) (leaf : List ℕ × ℕ) : Type 0 where
  pub key : leaf.0 ≡ leaf_key w
  pub value : leaf.1 ≡ w 0
  pub short : w 1 ≤ 64

-- ---- the prefix of a node, which is packed from place 2 on as a leaf's key is

-- the bytes of a prefix of at most 64 bytes, as they were read
abbrev pub prefix_read : List (Option ℕ) → Option (List ℕ)
prefix_read reads = option_and_then (λ header. key_of_length reads (header / 512 % 128)) (word_read reads 1)
