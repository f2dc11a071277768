-- Every column keeps the laws of a coding: a further kind adds its case.
use Rattle.std.specs.Prelude.{false, pos}
use Rattle.art_key.specs.declared.columns.Column.{Column}
use Rattle.art_key.specs.declared.columns.Kind.{Kind}
use Rattle.art_key.specs.declared.columns.Kind.TheVariants.{Bool, U8, U16, U32, U64, I8, I16, I32, I64, Text}
use Rattle.art_key.specs.Columns.{coding_of, kind_coding}
use Rattle.art_key.specs.KindLaws.{truth_is_coding, whole_is_coding}
use Rattle.art_key.specs.Kinds.{IsCoding, least_signed}
use Rattle.art_key.specs.TextLaws.{text_is_coding}
use Rattle.art_key.proofs.Descending.{keeps_laws}

pub kind_law : (k : Kind) → IsCoding false (kind_coding k)
kind_law Bool = truth_is_coding
kind_law U8 = whole_is_coding 1 (pos 0)
kind_law U16 = whole_is_coding 2 (pos 0)
kind_law U32 = whole_is_coding 4 (pos 0)
kind_law U64 = whole_is_coding 8 (pos 0)
kind_law I8 = whole_is_coding 1 (least_signed 1)
kind_law I16 = whole_is_coding 2 (least_signed 2)
kind_law I32 = whole_is_coding 4 (least_signed 4)
kind_law I64 = whole_is_coding 8 (least_signed 8)
kind_law (Text longest) = text_is_coding longest

pub column_law : (c : Column) → IsCoding c.descends (coding_of c)
column_law c = keeps_laws (kind_coding c.kind) (kind_law c.kind) c.descends
