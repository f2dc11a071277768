use Rattle.std.proofs.Common.{ap, arith, length, length-append}
use Rattle.art_key.specs.Columns.{kind_coding}
use Rattle.art_key.proofs.ColumnLaws.{kind_law}
use Rattle.art_key.proofs.columns.Kind.append_reversed.Goals as goal

pub append_complements-requires : goal.append_complements-requires
append_complements-requires c =
    omega (
      arith,
      ap length c.as_slice.ensures.value,
      ap length c.in_ok-append.ensures.bytes,
      ap length c.new-spelled.ensures,
      length-append c.new-spelled.result.items ((kind_coding c.args.self).spelling c.args.value.now),
      (kind_law c.args.self).narrow c.args.place c.args.value.now c.in_ok-append.ensures.stands,
      c.requires.room,
    )
