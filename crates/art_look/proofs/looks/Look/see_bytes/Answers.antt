use Rattle.std.proofs.Common.{arith}
use Rattle.art_look.specs.declared.path_buffers.PathBuffer.{PathBuffer}
use Rattle.art_look.proofs.Stages.{bytes_next, key_fits}
use Rattle.art_look.proofs.looks.Look.see_bytes.Goals as goal

pub returns-then-rest-gt8-clause-fits : goal.returns-then-rest-gt8-clause-fits
returns-then-rest-gt8-clause-fits c = λ z lo hi u w on shows is.
    let t : PathBuffer = record { path = c.args.path_buffer.now.path; key = c.spell.new.text } in
    bytes_next z lo hi c.args.self.now.depth t u w c.requires.few c.args.seen on c.args.number c.args.word c.min.result c.args.path_buffer.now.key.items c.requires.long c.spell.ensures (omega (arith, c.min.ensures)) shows is
    (omega (arith, c.min.ensures, c.if-rest-gt8.true)) (omega (arith, c.if-rest-gt8.true, c.from.ensures)) c.requires.short

pub returns-else-rest-gt8-clause-fits : goal.returns-else-rest-gt8-clause-fits
returns-else-rest-gt8-clause-fits c = λ z lo hi u w on shows is.
    let t : PathBuffer = record { path = c.args.path_buffer.now.path; key = c.spell.new.text } in
    key_fits z lo hi c.args.self.now.depth t u w c.requires.few c.args.seen on c.args.number c.args.word c.min.result c.args.path_buffer.now.key.items c.requires.long c.spell.ensures (omega (arith, c.min.ensures)) shows is
    (omega (arith, c.min.ensures, c.if-rest-gt8.false, c.from.ensures, c.requires.more))
