use Rattle.std.proofs.Common.{◌+◌, ◌*◌, ◌/◌, arith, get_or}
use Rattle.art_cell.specs.Reads.{word_of}
use Rattle.art_node4.proofs.Writing.{holds_from}
use Rattle.art_node4.proofs.plans.write.Goals as goal

pub returns-clause-holds : goal.returns-clause-holds
returns-clause-holds c =
    let header = get_or c.args.body.now.words 1 0 / 512 * 512 + c.len.result in
    let keys = c.write_keys.ensures in
    let children = c.write_children.ensures in
    holds_from c.args.sorted c.args.body.now.words header (word_of c.write_keys.new.body) (word_of c.write_children.new.body) c.args.list.now.items (omega arith) (omega (arith, c.len.ensures.value))
    (record { keys = keys.keys; before = keys.before; after_keys = keys.after })
    (record { children = children.children; before = children.before; after_children = children.after })
