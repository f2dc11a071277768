use Rattle.std.proofs.Common.{◌≡◌, ◌<◌, length, arith}
use Rattle.std.proofs.lemmas.Bool.Decides.{nat_tests}
use Rattle.art_server.proofs.StepLaws.{Finishes-answered, Finishes-cut, Finishes-empty, Finishes-unflushed}
use Rattle.art_server.proofs.sessions.finish.Goals as goal

pub returns-then-is_empty-clause-finishes : goal.returns-then-is_empty-clause-finishes
returns-then-is_empty-clause-finishes g c =
    let none : length c.rest-line.result.now ≡ 0 = grind (arith, nat_tests) in
    rw c.ended.ensures (Finishes-empty _ c.args.lines.now _ _ c.requires.given c.requires.count c.rest-line.ensures _ _ none)

pub returns-in-Err-clause-finishes : goal.returns-in-Err-clause-finishes
returns-in-Err-clause-finishes g c =
    let some : 0 < length c.rest-line.result.now = grind (arith, nat_tests) in
    rw c.after.ensures (Finishes-cut _ c.args.lines.now _ _ c.requires.given c.requires.count c.rest-line.ensures _ _ _ _ c.in-Err.stop some
    (rw c.in-Err.is at c.answer_line-pass.ensures.sends))

pub returns-in-Ok-clause-finishes : goal.returns-in-Ok-clause-finishes
returns-in-Ok-clause-finishes g c =
    let some : 0 < length c.rest-line.result.now = grind (arith, nat_tests) in
    rw c.ended-in-Ok.ensures (Finishes-answered _ c.args.lines.now _ _ c.requires.given c.requires.count c.rest-line.ensures _ _ _ _ _ _
    some (rw c.in_default.is at c.answer_line-pass.ensures.sends) c.flush.ensures.bytes)

pub returns-in-Err-flush-clause-finishes : goal.returns-in-Err-flush-clause-finishes
returns-in-Err-flush-clause-finishes g c =
    let some : 0 < length c.rest-line.result.now = grind (arith, nat_tests) in
    rw c.flush_failed.ensures (Finishes-unflushed _ c.args.lines.now _ _ c.requires.given c.requires.count c.rest-line.ensures _ _ _ _ _ _
    some (rw c.in_default.is at c.answer_line-pass.ensures.sends) c.flush.ensures.bytes)
