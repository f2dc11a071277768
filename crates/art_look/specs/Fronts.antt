-- How the whole path of a node stands to the lower end of a range, and from which byte on its least child is looked for.
use Rattle.std.specs.Prelude.{◌≡◌, ◌⊎◌, ℕ, ◌<◌, List, [], ◌∷◌, ◌++◌, length, get_or, Option, Some, None, Bool, false, ◌==◌}
use Rattle.art_look.specs.declared.fronts.Front.{Front}
use Rattle.art_look.specs.declared.fronts.Front.TheVariants.{Within, Beyond}
use Rattle.art_tree.specs.Looks.{Before}
use Rattle.art_tree.specs.Tree.{Begins}

-- p is after lo, or lo ends with p or within it
abbrev pub IsPast : List ℕ → List ℕ → Type 0
IsPast lo p = Before lo p ⊎ Begins lo p

-- lo's next byte behind p, or 0 where p is past lo
abbrev pub IsLow : List ℕ → List ℕ → ℕ → Type 0
IsLow lo p low = Begins (p ++ low ∷ []) lo ⊎ ((low ≡ 0) × IsPast lo p)

abbrev pub IsFront : Front → List ℕ → List ℕ → Type 0
IsFront Within lo p = Begins p lo × (length p < length lo)
IsFront Beyond lo p = IsPast lo p

-- where it is neither, it is before lo and does not begin it
abbrev pub IsFound : List ℕ → List ℕ → Option Front → Type 0
IsFound lo p (Some front) = IsFront front lo p
IsFound lo p None = Before p lo × (Begins p lo → ⊥)

abbrev pub low_at : Front → List ℕ → List ℕ → ℕ
low_at Within lo p = get_or lo (length p) 0
low_at Beyond lo p = 0

-- whether p with the byte begins lo
abbrev pub is_within : Front → List ℕ → List ℕ → ℕ → Bool
is_within Within lo p byte = get_or lo (length p) 0 == byte
is_within Beyond lo p byte = false
