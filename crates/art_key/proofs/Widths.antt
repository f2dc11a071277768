-- How wide columns are.
use Rattle.std.proofs.Common.{◌*◌, ◌≤◌, List, [], ◌∷◌, length, arith, zero-le}
use Rattle.std.specs.List.{All}
use Rattle.std.proofs.lemmas.List.Elements.{All-head, All-tail}
use Rattle.art_key.specs.declared.columns.Column.{Column}
use Rattle.art_key.specs.declared.columns.Kind.{Kind}
use Rattle.art_key.specs.declared.columns.Kind.TheVariants.{Bool, U8, U16, U32, U64, I8, I16, I32, I64, Text}
use Rattle.art_key.specs.Columns.{kind_coding, total_width, IsColumn, IsKind}

pub width-le : (k : Kind) → IsKind k → (kind_coding k).width ≤ 50
width-le Bool known = omega arith
width-le U8 known = omega arith
width-le U16 known = omega arith
width-le U32 known = omega arith
width-le U64 known = omega arith
width-le I8 known = omega arith
width-le I16 known = omega arith
width-le I32 known = omega arith
width-le I64 known = omega arith
width-le (Text longest) known = omega arith

-- the widest column is a text of 24 bytes
pub total_width-le : (cs : List Column) → All IsColumn cs → total_width cs ≤ 50 * length cs
total_width-le [] known = zero-le
total_width-le (c ∷ cs) known = omega (arith, width-le c.kind (All-head IsColumn c cs known), total_width-le cs (All-tail IsColumn c cs known))
