use Rattle.std.proofs.Common.{◌+◌, refl}
use Rattle.art_find.proofs.Passing.{came_now, came_then, found_on}
use Rattle.art_find.specs.Nodes.{finding_at, moment}
use Rattle.art_find.specs.declared.descents.Stage.TheVariants.{Header}
use Rattle.art_find.proofs.findings.Finding.search_past.Goals as goal

pub hear_word-requires-clause-fits : goal.hear_word-requires-clause-fits
hear_word-requires-clause-fits g c = (c.requires.read.0, c.requires.read.3.0, c.requires.read.3.1, c.requires.read.1, c.requires.read.3.2)

pub pass_prefix-requires-clause-found : goal.pass_prefix-requires-clause-found
pass_prefix-requires-clause-found g c =
    let z = c.requires.read.0 in
    let v = c.requires.read.1 in
    let k = c.args.key.now in
    let here = finding_at c.args.self.now.above c.args.depth (Header c.args.seen.stamp c.args.seen.node) in
    let now = moment z v (g.K.Sink.kept c.args.sink.now) (c.args.left.now + 1) in
    let w = g.S.Steps.view c.args.steps.now in
    let later = moment (g.S.Steps.sizes c.args.steps.now) w (g.K.Sink.kept c.hear_word.new.sink) c.args.left.now in
    found_on k here now c.hear_word.new.self later
    (came_then k here now c.hear_word.new.self later c.requires.read.2.0 refl (c.hear_word.ensures.looked z v w c.requires.read.2.1) here now (came_now k here now)) c.requires.read.3

pub returns-clause-goes : goal.returns-clause-goes
returns-clause-goes g c = λ z v read m a came.
    let w = g.S.Steps.view c.args.steps.now in
    c.pass_prefix.ensures.goes m a
    (came_then c.args.key.now (finding_at c.args.self.now.above c.args.depth (Header c.args.seen.stamp c.args.seen.node)) (moment z v (g.K.Sink.kept c.args.sink.now) (c.args.left.now + 1))
    c.hear_word.new.self (moment (g.S.Steps.sizes c.args.steps.now) w (g.K.Sink.kept c.hear_word.new.sink) c.args.left.now)
    read.0 refl (c.hear_word.ensures.looked z v w read.1) m a came)
