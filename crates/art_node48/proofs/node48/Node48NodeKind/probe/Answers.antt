use Rattle.std.proofs.Common.{◌≡◌, ◌+◌, ◌/◌, ◌%◌, ◌∙◌, ap, sym, arith, Some}
use Rattle.art_cell.specs.Words.{byte_of}
use Rattle.art_cell.specs.Reads.{word_read}
use Rattle.art_node48.proofs.Index.{no_child_at_none, entry_read, child_read, entry_within, nonzero_some}
use Rattle.art_node48.proofs.node48.Node48NodeKind.probe.Goals as goal
use Rattle.art_node48.proofs.node48.Node48NodeKind.probe.Goals.{then-entry-eq0-via-then-entry-eq0, then-entry-eq0-via-else-entry-eq0+then-entry-gt-PLACES}

pub returns-then-entry-eq0-clause-tells : goal.returns-then-entry-eq0-clause-tells
returns-then-entry-eq0-clause-tells c = λ w body agrees.
    let read : word_read c.args.reads.now (10 + c.args.byte / 8) ≡ Some c.in-Some.word = ap (λ b. word_read c.args.reads.now (10 + b / 8)) (sym c.from-byte.ensures) ∙ sym c.get.ensures ∙ c.in-Some.is in
    let entry = entry_read c.args.reads.now w c.args.byte c.in-Some.word agrees read in
    let is : c.entry_in-entry.result ≡ byte_of c.in-Some.word (c.args.byte % 8) = c.entry_in-entry.ensures ∙ ap (λ b. byte_of c.in-Some.word (b % 8)) c.from-byte.ensures in
    let within = entry_within w c.args.byte c.entry_in-entry.result body c.ranges.byte.fits (entry ∙ sym is) in
    elim c.then-entry-eq0.branch [
      | then-entry-eq0-via-then-entry-eq0 v ↦ no_child_at_none w c.args.byte (entry ∙ sym is ∙ v.if-entry-eq0.true)
      | then-entry-eq0-via-else-entry-eq0+then-entry-gt-PLACES v ↦ absurd (omega (arith, v.if-entry-gt-PLACES.true))
    ]

pub returns-in-Some-eq0-clause-tells : goal.returns-in-Some-eq0-clause-tells
returns-in-Some-eq0-clause-tells c = λ w body agrees.
    let read : word_read c.args.reads.now (10 + c.args.byte / 8) ≡ Some c.in-Some.word = ap (λ b. word_read c.args.reads.now (10 + b / 8)) (sym c.from-byte.ensures) ∙ sym c.get.ensures ∙ c.in-Some.is in
    let is : c.entry_in-entry.result ≡ byte_of c.in-Some.word (c.args.byte % 8) = c.entry_in-entry.ensures ∙ ap (λ b. byte_of c.in-Some.word (b % 8)) c.from-byte.ensures in
    child_read c.args.reads.now w c.args.byte c.in-Some.word c.entry_in-entry.result 0 agrees read is c.if-entry-eq0.false (sym c.get-2.ensures ∙ c.in-Some-eq0.is ∙ ap Some c.in-Some-eq0.field-0-test)

pub returns-in-Some-get-clause-tells : goal.returns-in-Some-get-clause-tells
returns-in-Some-get-clause-tells c = λ w body agrees.
    let read : word_read c.args.reads.now (10 + c.args.byte / 8) ≡ Some c.in-Some.word = ap (λ b. word_read c.args.reads.now (10 + b / 8)) (sym c.from-byte.ensures) ∙ sym c.get.ensures ∙ c.in-Some.is in
    let is : c.entry_in-entry.result ≡ byte_of c.in-Some.word (c.args.byte % 8) = c.entry_in-entry.ensures ∙ ap (λ b. byte_of c.in-Some.word (b % 8)) c.from-byte.ensures in
    child_read c.args.reads.now w c.args.byte c.in-Some.word c.entry_in-entry.result c.in-Some-get.child agrees read is c.if-entry-eq0.false (sym c.get-2.ensures ∙ c.in-Some-get.is) ∙ nonzero_some c.in-Some-get.child c.in-Some-get.child-test.1
