use Rattle.std.proofs.Common.{arith}
use Rattle.art_look.proofs.Stages.{no_prefix, prefix_fits, torn_fits}
use Rattle.art_look.proofs.looks.Look.see_header.Goals as goal

pub returns-then-self-count-gt63-clause-fits : goal.returns-then-self-count-gt63-clause-fits
returns-then-self-count-gt63-clause-fits c = λ z hi u w on shows.
    torn_fits z c.args.lo.now hi c.args.self.now.depth c.args.path_buffer.now u w c.args.seen on c.requires.long c.requires.few (omega (arith, c.if-self-count-gt63.true, c.read_header-count.ensures.prefix)) shows

pub returns-then-count-gt0-clause-fits : goal.returns-then-count-gt0-clause-fits
returns-then-count-gt0-clause-fits c = λ z hi u w on shows.
    prefix_fits z c.args.lo.now hi c.args.self.now.depth c.args.path_buffer.now u w c.args.seen on c.requires.long (omega (arith, c.if-count-gt0.true, c.read_header-count.ensures.prefix))
    (omega (arith, c.if-self-count-gt63.false, c.read_header-count.ensures.prefix)) c.requires.front shows

pub returns-else-count-gt0-clause-fits : goal.returns-else-count-gt0-clause-fits
returns-else-count-gt0-clause-fits c = λ z hi u w on shows.
    c.pass.ensures.fits z hi u w on
    (no_prefix z c.args.lo.now hi c.args.self.now.depth c.args.path_buffer.now u w c.args.seen on c.requires.long (omega (arith, c.if-count-gt0.false, c.read_header-count.ensures.prefix)) shows)
