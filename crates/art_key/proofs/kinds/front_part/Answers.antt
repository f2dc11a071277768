use Rattle.std.proofs.Common.{◌≡◌, ◌-◌, ◌<◌, ◌≤◌, ℕ, List, [], ◌∷◌, None, Some, arith, drop, get_or, length, ltb-true, ne_eqb, refl, length-drop, take, take_all}
use Rattle.art_key.proofs.kinds.front_part.Goals as goal
use Rattle.art_key.proofs.kinds.front_part.Goals.{then-bytes-lt1, else-bytes-lt1+then-bytes-lt2+in-0-1, else-bytes-lt1+else-bytes-lt2+in-0+in_default-1}
use Rattle.art_key.proofs.kinds.front_part.Goals.{then-bytes-lt2+in_default-1, else-bytes-lt2+in_default-1}
use Rattle.art_key.specs.Kinds.{unescaped, with_byte}

all_behind : (n : ℕ) (bytes : List ℕ) → take (length bytes - n) (drop n bytes) ≡ drop n bytes
all_behind n bytes = take_all (length bytes - n) (drop n bytes) (omega (arith, length-drop n bytes))

ends : (bytes : List ℕ) → 2 ≤ length bytes → get_or bytes 0 0 ≡ 0 → get_or bytes 1 0 ≡ 0 → unescaped bytes ≡ Some ([], drop 2 bytes)
ends [] two first second = absurd (omega (arith, two))
ends (b ∷ []) two first second = absurd (omega (arith, two))
ends (b ∷ c ∷ bytes) two first second = rw (first, second) refl

escapes : (bytes : List ℕ) → get_or bytes 0 0 ≡ 0 → get_or bytes 1 0 ≡ 255 → unescaped bytes ≡ with_byte 0 (unescaped (drop 2 bytes))
escapes [] first second = refl
escapes (b ∷ []) first second = refl
escapes (b ∷ c ∷ bytes) first second = rw (first, second) refl

stands : (bytes : List ℕ) → (get_or bytes 0 0 ≡ 0 → ⊥) → unescaped bytes ≡ with_byte (get_or bytes 0 0) (unescaped (drop 1 bytes))
stands [] first = refl
stands (b ∷ []) first = refl
stands (b ∷ c ∷ bytes) first = rw (ne_eqb b 0 first) refl

filled : (bytes : List ℕ) → (get_or bytes 0 0 ≡ 0 → ⊥) → 0 < length bytes
filled [] first = absurd (first refl)
filled (b ∷ bytes) first = omega arith

short : (bytes : List ℕ) → length bytes < 2 → unescaped bytes ≡ None
short [] few = refl
short (b ∷ []) few = refl
short (b ∷ c ∷ bytes) few = absurd (omega (arith, few))

refused : (bytes : List ℕ) → get_or bytes 0 0 ≡ 0 → (get_or bytes 1 0 ≡ 0 → ⊥) → (get_or bytes 1 0 ≡ 255 → ⊥) → unescaped bytes ≡ None
refused [] first end escape = refl
refused (b ∷ []) first end escape = refl
refused (b ∷ c ∷ bytes) first end escape = rw (first, ne_eqb c 0 end, ne_eqb c 255 escape) refl

pub returns-in-0-clause-part : goal.returns-in-0-clause-part
returns-in-0-clause-part c =
    let bytes = c.args.bytes.now in
    let two = c.in-0.len_at_least in
    let all = all_behind 2 bytes in
    record {
      text = rw all (ends bytes two (assumption c) (assumption c));
      shorter = rw all (omega (arith, two, length-drop 2 bytes));
    }

pub returns-in-0-2-clause-part : goal.returns-in-0-2-clause-part
returns-in-0-2-clause-part c =
    let bytes = c.args.bytes.now in
    let all = all_behind 2 bytes in
    record {
      text = rw all (escapes bytes (assumption c) (assumption c));
      shorter = rw all (omega (arith, c.in-0-2.len_at_least, length-drop 2 bytes));
    }

pub returns-in-0-3-clause-none : goal.returns-in-0-3-clause-none
returns-in-0-3-clause-none c =
    let bytes = c.args.bytes.now in
    elim c.in-0-3-1.branch [
      | then-bytes-lt1 w ↦ let few = ltb-true (length bytes) 1 (assumption w) in short bytes (omega (arith, few))
      | else-bytes-lt1+then-bytes-lt2+in-0-1 w ↦ short bytes (ltb-true (length bytes) 2 (assumption w))
      | else-bytes-lt1+else-bytes-lt2+in-0+in_default-1 w ↦ refused bytes (assumption w) (assumption w) (assumption w)
    ]

pub returns-in-len1-up-clause-part : goal.returns-in-len1-up-clause-part
returns-in-len1-up-clause-part c =
    let bytes = c.args.bytes.now in
    let all = all_behind 1 bytes in
    let first : get_or bytes 0 0 ≡ 0 → ⊥ = elim c.in-len1-up-1.branch [
      | then-bytes-lt2+in_default-1 w ↦ assumption w
      | else-bytes-lt2+in_default-1 w ↦ assumption w
    ] in
    let some = filled bytes first in
    record {
      text = rw all (stands bytes first);
      shorter = rw all (omega (arith, some, length-drop 1 bytes));
    }
