use Rattle.std.proofs.Common.{refl, arith}
use Rattle.art_look.specs.declared.path_buffers.PathBuffer.{PathBuffer}
use Rattle.art_look.proofs.Stages.{bytes_first, empty_fits, length_torn}
use Rattle.art_look.proofs.looks.Look.see_length.Goals as goal

pub returns-then-bytes-gt64-clause-fits : goal.returns-then-bytes-gt64-clause-fits
returns-then-bytes-gt64-clause-fits c = λ z lo hi u w on shows is.
    let t : PathBuffer = record { path = c.args.path_buffer.now.path; key = c.new-path_buffer.result } in
    length_torn z lo hi c.args.self.now.depth t u w c.requires.few c.args.stamp c.args.leaf on c.args.value c.args.bytes shows is c.if-bytes-gt64.true

pub returns-then-bytes-gt0-clause-fits : goal.returns-then-bytes-gt0-clause-fits
returns-then-bytes-gt0-clause-fits c = λ z lo hi u w on shows is.
    let t : PathBuffer = record { path = c.args.path_buffer.now.path; key = c.new-path_buffer.result } in
    bytes_first z lo hi c.args.self.now.depth t u w c.requires.few c.args.stamp c.args.leaf on c.args.value c.args.bytes shows is c.if-bytes-gt0.true c.if-bytes-gt64.false c.new-path_buffer.ensures _ refl

pub returns-else-bytes-gt0-clause-fits : goal.returns-else-bytes-gt0-clause-fits
returns-else-bytes-gt0-clause-fits c = λ z lo hi u w on shows is.
    let t : PathBuffer = record { path = c.args.path_buffer.now.path; key = c.new-path_buffer.result } in
    empty_fits z lo hi c.args.self.now.depth t u w c.requires.few c.args.stamp c.args.leaf c.args.value c.args.bytes on shows is (omega (arith, c.if-bytes-gt0.false)) c.new-path_buffer.ensures
