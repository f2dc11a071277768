use Rattle.std.proofs.Common.{◌∙◌, arith}
use Rattle.art_cell.specs.Reads.{word_of}
use Rattle.art_node.proofs.Copies.{true_from}
use Rattle.art_node.proofs.Forked.{has_none, has_two, room_for_another, room_for_one, still_free}
use Rattle.art_node.proofs.words.fork.Goals as goal

pub add-requires-clause-body : goal.add-requires-clause-body
add-requires-clause-body c =
    let node = has_none c.bare.new.body.layout (word_of c.bare.new.body) (word_of c.set_prefix.new.body) c.args.prefix.now c.bare.ensures.layout c.set_prefix.ensures.node c.bare.ensures.none in
    record { layout = c.set_prefix.ensures.layout ∙ c.bare.ensures.layout; meaning = node.body }

pub add-requires-clause-free : goal.add-requires-clause-free
add-requires-clause-free c =
    let node = has_none c.bare.new.body.layout (word_of c.bare.new.body) (word_of c.set_prefix.new.body) c.args.prefix.now c.bare.ensures.layout c.set_prefix.ensures.node c.bare.ensures.none in
    node.children c.args.one (omega (arith, c.ranges.one.fits))

pub add-requires-2-clause-body : goal.add-requires-2-clause-body
add-requires-2-clause-body c =
    let w = word_of c.set_prefix.new.body in
    let node = has_none c.bare.new.body.layout (word_of c.bare.new.body) w c.args.prefix.now c.bare.ensures.layout c.set_prefix.ensures.node c.bare.ensures.none in
    let first = c.add.ensures.added (true_from c.add.result (λ refused. room_for_one w c.args.prefix.now node (c.add.ensures.full.0 refused))) in
    record { layout = c.add.ensures.layout ∙ c.set_prefix.ensures.layout ∙ c.bare.ensures.layout; meaning = first.body }

pub add-requires-2-clause-free : goal.add-requires-2-clause-free
add-requires-2-clause-free c =
    let w = word_of c.set_prefix.new.body in
    let node = has_none c.bare.new.body.layout (word_of c.bare.new.body) w c.args.prefix.now c.bare.ensures.layout c.set_prefix.ensures.node c.bare.ensures.none in
    let first = c.add.ensures.added (true_from c.add.result (λ refused. room_for_one w c.args.prefix.now node (c.add.ensures.full.0 refused))) in
    still_free w c.args.prefix.now node c.args.one c.args.one_child (word_of c.add.new.body) (omega (arith, c.ranges.one.fits)) first c.args.other (omega (arith, c.ranges.other.fits)) c.requires.apart

pub returns-clause-node : goal.returns-clause-node
returns-clause-node c =
    let w = word_of c.set_prefix.new.body in
    let p = c.args.prefix.now in
    let small = c.ranges.one.fits in
    let node = has_none c.bare.new.body.layout (word_of c.bare.new.body) w p c.bare.ensures.layout c.set_prefix.ensures.node c.bare.ensures.none in
    let first = c.add.ensures.added (true_from c.add.result (λ refused. room_for_one w p node (c.add.ensures.full.0 refused))) in
    let second = c.add-2.ensures.added (true_from c.add-2.result (λ refused. room_for_another w p node c.args.one c.args.one_child (word_of c.add.new.body) (omega (arith, small)) first (c.add-2.ensures.full.0 refused))) in
    has_two w p node c.args.one c.args.one_child (word_of c.add.new.body) (omega (arith, small)) first c.args.other c.args.other_child (word_of c.add-2.new.body) c.requires.apart second
