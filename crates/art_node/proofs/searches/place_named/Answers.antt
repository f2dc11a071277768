use Rattle.std.proofs.Common.{◌≡◌, ◌%◌, refl, ap, sym, ◌∙◌, arith}
use Rattle.art_cell.specs.Words.{byte_of}
use Rattle.art_node48.proofs.Index.{no_child_at_none, child_at_entry, entry_within}
use Rattle.art_node.proofs.SoughtWords.{entry_is, entry_occupied}
use Rattle.art_node.proofs.searches.place_named.Goals as goal
use Rattle.art_node.proofs.searches.place_named.Goals.{then-entry-eq0-via-then-entry-eq0, then-entry-eq0-via-else-entry-eq0+then-entry-gt-INDEXED_PLACES}

pub returns-then-entry-eq0 : goal.returns-then-entry-eq0
returns-then-entry-eq0 c w body has =
    let is : c.from-entry.result ≡ byte_of c.args.word (c.args.byte % 8) = c.from-entry.ensures ∙ c.byte_at.ensures ∙ ap (byte_of c.args.word) c.from.ensures in
    let entry = entry_is w c.args.byte c.args.word has ∙ sym is in
    elim c.then-entry-eq0.branch [
      | then-entry-eq0-via-then-entry-eq0 b ↦ no_child_at_none w c.args.byte (entry ∙ b.if-entry-eq0.true)
      | then-entry-eq0-via-else-entry-eq0+then-entry-gt-INDEXED_PLACES b ↦ absurd (omega (arith, entry_within w c.args.byte c.from-entry.result body c.ranges.byte.fits entry, b.if-entry-gt-INDEXED_PLACES.true))
    ]

pub returns : goal.returns
returns c = (
  omega arith,
  omega arith,
  λ w has.
      let is : c.from-entry.result ≡ byte_of c.args.word (c.args.byte % 8) = c.from-entry.ensures ∙ c.byte_at.ensures ∙ ap (byte_of c.args.word) c.from.ensures in
      child_at_entry w c.args.byte c.from-entry.result (entry_is w c.args.byte c.args.word has ∙ sym is) c.if-entry-eq0.false,
  λ w body has.
      let is : c.from-entry.result ≡ byte_of c.args.word (c.args.byte % 8) = c.from-entry.ensures ∙ c.byte_at.ensures ∙ ap (byte_of c.args.word) c.from.ensures in
      entry_occupied w c.args.byte c.from-entry.result _ body c.ranges.byte.fits (entry_is w c.args.byte c.args.word has ∙ sym is) c.if-entry-eq0.false refl,
)
