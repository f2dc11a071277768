use Rattle.std.proofs.Common.{length, map, ap, arith, length-append}
use Rattle.std.specs.List.{range_with_len}
use Rattle.std.proofs.lemmas.List.FromFn.{length-map-range_with_len}
use Rattle.art_cell.specs.Words.{byte_of}
use Rattle.art_look.specs.declared.path_buffers.PathBuffer.{PathBuffer}
use Rattle.art_look.proofs.Stages.{prefix_next, prefix_passed}
use Rattle.art_look.proofs.looks.Look.see_prefix.Goals as goal

pub pass-requires-clause-long : goal.pass-requires-clause-long
pass-requires-clause-long c =
    let grown = map (byte_of c.args.word) (range_with_len 0 c.min.result) in
    let long = ap length c.spell.ensures in
    omega (arith, long, length-append c.args.path_buffer.now.path.items grown, length-map-range_with_len (byte_of c.args.word) 0 c.min.result, c.requires.long, c.min.ensures, c.from.ensures, c.read_header.ensures.prefix, c.if-rest-gt8.false, c.requires.more)

pub returns-then-rest-gt8-clause-fits : goal.returns-then-rest-gt8-clause-fits
returns-then-rest-gt8-clause-fits c = λ z hi u w on shows is.
    let t : PathBuffer = record { path = c.spell.new.text; key = c.args.path_buffer.now.key } in
    prefix_next z c.args.lo.now hi c.args.self.now.depth t u w c.args.seen on c.args.number c.args.word c.min.result c.args.path_buffer.now.path.items c.requires.long c.spell.ensures (omega (arith, c.min.ensures)) c.requires.front shows is
    (omega (arith, c.min.ensures, c.if-rest-gt8.true)) (omega (arith, c.if-rest-gt8.true, c.from.ensures, c.read_header.ensures.prefix)) c.requires.short

pub returns-else-rest-gt8-clause-fits : goal.returns-else-rest-gt8-clause-fits
returns-else-rest-gt8-clause-fits c = λ z hi u w on shows is.
    let t : PathBuffer = record { path = c.spell.new.text; key = c.args.path_buffer.now.key } in
    c.pass.ensures.fits z hi u w on
    (prefix_passed z c.args.lo.now hi c.args.self.now.depth t u w c.args.seen on c.args.number c.args.word c.min.result c.args.path_buffer.now.path.items c.requires.long c.spell.ensures (omega (arith, c.min.ensures)) c.requires.front shows is
    (omega (arith, c.min.ensures, c.if-rest-gt8.false, c.from.ensures, c.read_header.ensures.prefix, c.requires.more)))
