-- Bounds of ranges of keys.
use Rattle.std.specs.Prelude.{Bool, true, false}
use Rattle.std.specs.Ordering.{nat_cmp, is_lt}
use Rattle.std.specs.Cmp.Lexicographic.{slice_cmp}
use Rattle.art_key.specs.declared.bounds.Bound.{Bound}
use Rattle.art_key.specs.declared.bounds.Bound.TheVariants.{At, End}

-- keys by their bytes, and each key before the end
abbrev pub is_before : Bound → Bound → Bool
is_before (At a) (At b) = is_lt (slice_cmp nat_cmp a.items b.items)
is_before (At a) End = true
is_before End b = false
