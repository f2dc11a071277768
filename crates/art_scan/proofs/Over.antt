-- Rows that are listed over those of an earlier scan.
use Rattle.std.proofs.Common.{◌≡◌, ℕ, ◌+◌, ◌<◌, ◌≤◌, ◌&&◌, Bool, true, false, List, length, nat_lt, set, take, ap, subst, sym, ◌∙◌, arith}
use Rattle.std.proofs.lemmas.List.{length-set, length-take-le, take-set-le, take_all, take_more_set}
use Rattle.std.specs.Int.{from_bool}
use Rattle.art_key.specs.Bounds.{is_before}
use Rattle.art_model.specs.Rows.{Tuple}
use Rattle.art_model.specs.declared.rows.Row.{Row}
use Rattle.art_scan.proofs.Ended.{is_wanted}
use Rattle.art_scan.specs.Tiles.{with_found}
use Rattle.art_scan.specs.Tilings.{IsScanning}
use Rattle.art_scan.specs.declared.tilings.Tiling.{Tiling}
use Rattle.art_table.specs.Looks.{found_row}
use Rattle.art_table.specs.declared.passes.Pass.{Pass}
use Rattle.art_table.specs.declared.tables.Table.{Table}

-- whether another look is wanted where so many rows are listed
pub wants_by_length : (rows : List Row) (listed limit : ℕ) (b answer : Bool) → listed ≤ length rows → (nat_lt listed limit && b) ≡ answer
    → (nat_lt (length (take listed rows)) limit && b) ≡ answer
wants_by_length rows listed limit b answer few is = ap (λ (n : ℕ). nat_lt n limit && b) (length-take-le listed rows few) ∙ is

module _ (rows : List Row) (listed : ℕ) (row : Row) (room : listed < length rows) where
  -- what a look found was written behind so many
  pub listed_over : (found : Bool) (n : ℕ) → n ≡ from_bool found → take (listed + n) (set rows listed row) ≡ with_found (take listed rows) (found_row found row)
  listed_over true n is = ap (λ (m : ℕ). take (listed + m) (set rows listed row)) is ∙ take_more_set rows listed row room
  listed_over false n is = ap (λ (m : ℕ). take m (set rows listed row)) none ∙ take-set-le listed rows listed row (omega arith)
    where
      none : listed + n ≡ listed
      none = omega (arith, is)

  pub still_few : (found : Bool) (n : ℕ) → n ≡ from_bool found → listed + n ≤ length (set rows listed row)
  still_few true n is = let same = length-set rows listed row in omega (arith, is, same, room)
  still_few false n is = let same = length-set rows listed row in omega (arith, is, same, room)

pub one_more : (found : Bool) (n : ℕ) → n ≡ from_bool found → n ≤ 1
one_more true n is = omega (arith, is)
one_more false n is = omega (arith, is)

module _ (t : Table) (lo hi : Tuple) (limit turns : ℕ) (p q : Pass) (rows : List Row) (g : Tiling) where
  -- all that the list has is listed
  pub scanning_all : (listed : ℕ) → listed ≡ length rows → IsScanning t lo hi limit turns p q rows g → IsScanning t lo hi limit turns p q (take listed rows) g
  scanning_all listed is s = subst (λ (l : List Row). IsScanning t lo hi limit turns p q l g) (sym (take_all listed rows (omega (arith, is)))) s

  pub has_room : (listed : ℕ) → listed ≤ length rows → IsScanning t lo hi limit turns p q (take listed rows) g → (nat_lt listed g.limit && is_before g.from g.end) ≡ true → listed < 100
  has_room listed few s wanted =
      let low = is_wanted t lo hi limit turns p q (take listed rows) g s (wants_by_length rows listed g.limit (is_before g.from g.end) true few wanted) in
      let most = s.most in
      let same = length-take-le listed rows few in
      omega (arith, low, most, same)
