use Rattle.std.proofs.Common.{ℕ, ◌+◌, ◌^◌, ap, arith}
use Rattle.art_cell.specs.Reads.{word_of}
use Rattle.art_node4.proofs.Differing.{one_set}
use Rattle.art_node4.proofs.NodeWords.{place_within, stands, was_set, set_outside_at}
use Rattle.art_node4.proofs.Writing.{below_set}
use Rattle.art_node4.proofs.bodies.set.Goals as goal

pub returns-clause-set : goal.returns-clause-set
returns-clause-set c =
    let there = c.requires.there in
    let w = word_of c.args.body.now in
    let place = c.first_child.result + c.position-index.result in
    let here = stands c.args.sorted w c.position-index.result c.args.byte there.0 c.requires.body.meaning there.1 c.position-index.ensures in
    let within = place_within c.args.sorted w c.position-index.result c.requires.body.meaning here.0 in
    was_set c.args.sorted c.args.body.now.words c.position-index.result c.args.byte place c.args.child there.0
    c.requires.body.meaning there.1 c.requires.child c.position-index.ensures
    (below_set (2 ^ 64) c.args.body.now.words place c.args.child (omega arith) c.requires.body.meaning.words)
    (ap (λ (f : ℕ). f + c.position-index.result) c.first_child.ensures.value) (omega (arith, within))

pub returns-clause-outside : goal.returns-clause-outside
returns-clause-outside c =
    let there = c.requires.there in
    let w = word_of c.args.body.now in
    let here = stands c.args.sorted w c.position-index.result c.args.byte there.0 c.requires.body.meaning there.1 c.position-index.ensures in
    let within = place_within c.args.sorted w c.position-index.result c.requires.body.meaning here.0 in
    set_outside_at c.args.sorted c.args.body.now.words c.position-index.result (c.first_child.result + c.position-index.result) c.args.child
    (ap (λ (f : ℕ). f + c.position-index.result) c.first_child.ensures.value) within

pub returns-clause-one : goal.returns-clause-one
returns-clause-one c = one_set c.args.sorted c.args.body.now.words (c.first_child.result + c.position-index.result) c.args.child
