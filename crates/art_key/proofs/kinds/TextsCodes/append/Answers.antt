use Rattle.std.proofs.Common.{◌≤◌, IsUtf8, ◌∙◌, ap, subst, arith, length, length-append, flat_map}
use Rattle.art_key.specs.Kinds.{escaped, text_fault}
use Rattle.art_key.specs.TextLaws.{length-escapes}
use Rattle.art_key.proofs.Texts.{text_stands}
use Rattle.art_key.proofs.kinds.TextsCodes.append.Goals as goal

pub append_bytes-requires : goal.append_bytes-requires
append_bytes-requires c =
    omega (
      arith,
      ap length c.append_escaped.ensures,
      length-append c.args.key.now.items (flat_map escaped c.as_bytes.result.now),
      length-escapes c.as_bytes.result.now,
      c.as_bytes.ensures.len,
      c.if-text-from.false,
      c.requires,
      c.from.ensures,
    )

pub returns-clause-stands : goal.returns-clause-stands
returns-clause-stands c =
    let utf8 : IsUtf8 c.in-Text.text = subst IsUtf8 c.as_str-text.ensures.value c.as_str-text.utf8 in
    let short : length c.in-Text.text ≤ c.args.self.longest = omega (arith, ap length c.as_str-text.ensures.value, c.if-text-from.false, c.from.ensures) in
    ap (text_fault c.args.self.longest c.args.place) c.in-Text.is ∙ text_stands c.args.self.longest c.args.place c.in-Text.text short utf8
