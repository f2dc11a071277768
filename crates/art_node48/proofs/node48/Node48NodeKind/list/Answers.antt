use Rattle.std.proofs.Common.{rules, ◌+◌, ◌∙◌, ap, sym, arith, inl, inr}
use Rattle.art_cell.specs.declared.cells.Layout.TheVariants.{Node48}
use Rattle.art_cell.specs.Words.{child_of}
use Rattle.art_cell.specs.Reads.{word_of}
use Rattle.art_node48.proofs.Index.{ListsByte, listed_to, lists_few}
use Rattle.art_node48.proofs.node48.Node48NodeKind.list.Goals as goal
use Rattle.art_node48.proofs.node48.Node48NodeKind.list.Goals.{in-Some, in_default}

pub loop-byte-init : goal.loop-byte-init
loop-byte-init c = record { few = search rules; items = c.new-entries.ensures }

pub loop-byte-preserved : goal.loop-byte-preserved
loop-byte-preserved c =
    let child = child_of Node48 (word_of c.args.body.now) in
    let byte = c.loop-byte.byte in
    let one : ListsByte child byte c.loop-byte.entries.items c.match-child_in.entries.items =
    elim c.match-child_in.branch [
      | in-Some w ↦ inl (w.in-Some.child, sym c.child_in.ensures ∙ w.in-Some.is, ap (λ v. v.items) w.entries-is ∙ w.push.ensures.items)
      | in_default w ↦ inr (sym c.child_in.ensures ∙ w.in_default.is, ap (λ v. v.items) w.entries-is)
    ] in
    record {
      few = lists_few child byte c.loop-byte.entries.items c.match-child_in.entries.items c.loop-byte.invariant.few one;
      items = listed_to child byte (byte + 1) c.loop-byte.entries.items c.match-child_in.entries.items c.loop-byte.invariant.items (omega arith) one;
    }

pub returns-after-child_in : goal.returns-after-child_in
returns-after-child_in c =
    let child = child_of Node48 (word_of c.args.body.now) in
    let byte = c.loop-byte.byte in
    let one : ListsByte child byte c.loop-byte.entries.items c.match-child_in.entries.items =
    elim c.match-child_in.branch [
      | in-Some w ↦ inl (w.in-Some.child, sym c.child_in.ensures ∙ w.in-Some.is, ap (λ v. v.items) w.entries-is ∙ w.push.ensures.items)
      | in_default w ↦ inr (sym c.child_in.ensures ∙ w.in_default.is, ap (λ v. v.items) w.entries-is)
    ] in
    listed_to child byte 256 c.loop-byte.entries.items c.match-child_in.entries.items c.loop-byte.invariant.items (omega (arith, c.loop-byte.auto.byte-end)) one
