use Rattle.std.proofs.Common.{ap, arith}
use Rattle.art_cell.specs.declared.node_kinds.Entry.{Entry}
use Rattle.art_cell.specs.Reads.{word_of}
use Rattle.art_node4.proofs.Keyed.{added_keys, removed_keys}
use Rattle.art_node4.proofs.plans.key_word_after.Goals as goal

pub returns-in-Add : goal.returns-in-Add
returns-in-Add c =
    added_keys c.args.sorted (word_of c.args.body.now) c.args.edit c.in-Add.at c.in-Add.entry c.in-Add.is c.requires.edit.body.meaning c.requires.edit.can c.args.place (omega arith) c.requires.high
    c.saturating_sub-at.result (omega arith) c.put_in.result (omega arith) _ (record {
      before = c.put_in.ensures.before;
      here = c.put_in.ensures.here;
      behind = c.put_in.ensures.behind;
    }) (ap (λ (e : Entry). e.byte) c.entry_after.ensures)

pub returns-in-Remove : goal.returns-in-Remove
returns-in-Remove c =
    removed_keys c.args.sorted (word_of c.args.body.now) c.args.edit c.in-Remove.field-0 c.in-Remove.is c.requires.edit.body.meaning c.requires.edit.can c.args.place (omega arith) c.requires.high
    c.saturating_sub-at.result (omega arith) c.take_out.result (omega arith) _ (record {
      before = c.take_out.ensures.before;
      behind = c.take_out.ensures.behind;
      last = c.take_out.ensures.last;
    }) (ap (λ (e : Entry). e.byte) c.entry_after-in-Remove.ensures)
