-- How bytes stand to those of a key.
use Rattle.std.specs.Prelude.{◌≡◌, ◌⊎◌, ℕ, ◌+◌, ◌<◌, ◌≤◌, List, length, get_or}
use Rattle.art_path.specs.declared.compared.Compared.{Compared}
use Rattle.art_path.specs.declared.compared.Compared.TheVariants.{Same, Below, Above}

-- the first bytes, so many, are those of the key from a place on
pub record AreSame (bytes : ℕ → ℕ) (count : ℕ) (key : List ℕ) (from : ℕ) : Type 0 where
  pub within : from + count ≤ length key
  pub same : (i : ℕ) → i < count → bytes i ≡ get_or key (from + i) 0

-- how so many bytes stand to the key's
abbrev pub IsCompared : (ℕ → ℕ) → ℕ → List ℕ → ℕ → Compared → Type 0
IsCompared bytes count key from Same = AreSame bytes count key from
IsCompared bytes count key from (Below at) =
    (at < count) × AreSame bytes at key from × (from + at < length key) × (bytes at < get_or key (from + at) 0)
IsCompared bytes count key from (Above at) =
    (at < count) × AreSame bytes at key from × ((from + at ≡ length key) ⊎ ((from + at < length key) × (get_or key (from + at) 0 < bytes at)))

-- one result is right at most
abbrev pub IsDetermined : (ℕ → ℕ) → ℕ → List ℕ → ℕ → Type 0
IsDetermined bytes count key from = (r s : Compared) → IsCompared bytes count key from r → IsCompared bytes count key from s → r ≡ s

-- the index of the first byte that is not the key's
abbrev pub index_of : Compared → ℕ
index_of Same = 0
index_of (Below at) = at
index_of (Above at) = at

-- the same of bytes behind others, so many, which are the key's
abbrev pub behind : ℕ → Compared → Compared
behind count Same = Same
behind count (Below at) = Below (count + at)
behind count (Above at) = Above (count + at)
