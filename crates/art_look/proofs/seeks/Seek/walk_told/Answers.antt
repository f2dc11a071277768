use Rattle.art_look.proofs.Counted.{walks_on}
use Rattle.art_look.proofs.Parts.{walk_looks}
use Rattle.art_look.proofs.seeks.Seek.walk_told.Goals as goal
use Rattle.art_look.specs.Walks.{deed_at}

pub returns-clause-fits : goal.returns-clause-fits
returns-clause-fits c z hi u v w asked b is row =
    let m = c.args.self.now in
    let k = c.args.key.now in
    let t = c.args.path_buffer.now in
    c.walk_heard.ensures.fits z k hi u w c.told-on.new.path_buffer
    (walks_on z k hi u m t v (deed_at m.walk k hi t) asked c.args.answer w c.requires.turn (walk_looks m.walk asked is) row b c.told-on.new.self c.told-on.new.path_buffer
    (c.told-on.ensures.fits z hi b.opened v w m.restarts asked b.walk is row) c.told-on.result c.told-on.ensures.on)
