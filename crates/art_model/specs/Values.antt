-- The order of values.
use Rattle.std.specs.declared.cmp.Ordering.{Ordering}
use Rattle.std.specs.declared.cmp.Ordering.TheVariants.{Less, Greater}
use Rattle.std.specs.Ordering.{nat_cmp, int_cmp, bool_cmp}
use Rattle.std.specs.Cmp.Lexicographic.{slice_cmp}
use Rattle.art_model.specs.declared.values.Value.{Value}
use Rattle.art_model.specs.declared.values.Value.TheVariants.{Bool, Int, Text}

-- False before true, whole numbers by size, texts by their bytes of UTF-8, which is by code points.
-- A truth value stands before a number, and a number before a text.
abbrev pub value_cmp : Value → Value → Ordering
value_cmp (Bool a) (Bool b) = bool_cmp a b
value_cmp (Bool a) (Int n) = Less
value_cmp (Bool a) (Text s) = Less
value_cmp (Int m) (Bool b) = Greater
value_cmp (Int m) (Int n) = int_cmp m n
value_cmp (Int m) (Text s) = Less
value_cmp (Text s) (Bool b) = Greater
value_cmp (Text s) (Int n) = Greater
value_cmp (Text s) (Text t) = slice_cmp nat_cmp s t
