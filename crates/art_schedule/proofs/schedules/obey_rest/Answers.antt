use Rattle.std.proofs.Common.{◌≡◌, ◌<◌, Err, length, rules, arith}
use Rattle.std.proofs.lemmas.Bool.Decides.{nat_tests}
use Rattle.art_schedule.specs.Desks.{places_of}
use Rattle.art_schedule.proofs.WayLaws.{EndsThere-ends, EndsThere-stopped, HasObeyed, HasObeyed-last, HasObeyed-none}
use Rattle.art_schedule.proofs.schedules.obey_rest.Goals as goal
use Rattle.art_schedule.proofs.schedules.obey_rest.Goals.{then-not-is_empty+in_ok-obey_line, else-not-is_empty}

pub returns-in_err-obey_line-clause-rest : goal.returns-in_err-obey_line-clause-rest
returns-in_err-obey_line-clause-rest g c =
    let some : 0 < length c.rest-line.result.now = grind (arith, nat_tests) in
    let is : c.from_residual.result ≡ Err c.in_err-obey_line.field-0.0 = search rules in
    rw is (EndsThere-stopped c.args.table.now c.args.lines.now _ _ _ _ _ _ c.requires.given c.rest-line.ensures some
    c.in_err-obey_line.ensures.obeys)

pub returns-clause-rest : goal.returns-clause-rest
returns-clause-rest g c =
    let t = c.args.table.now in
    let at = c.args.lines.now in
    let line = c.rest-line.result.now in
    let has : HasObeyed t at (g.W.Write.contents c.args.writer.now) (g.W.Write.contents c.if-not-is_empty.writer)
    (places_of c.args.desk.now) (places_of c.if-not-is_empty.desk) =
    elim c.if-not-is_empty.branch [
      | then-not-is_empty+in_ok-obey_line w ↦ (
          let some : 0 < length line = grind (arith, nat_tests) in
          rw (w.desk-is, w.writer-is) (HasObeyed-last t at _ _ _ _ line w.in_ok-obey_line.field-0 c.requires.given c.rest-line.ensures some
          w.in_ok-obey_line.ensures.obeys))
      | else-not-is_empty w ↦ (
          let none : length line ≡ 0 = grind (arith, nat_tests) in
          rw (w.desk-is, w.writer-is) (HasObeyed-none t at _ _ line c.requires.given c.rest-line.ensures none))
    ] in
    EndsThere-ends t at _ _ _ _ _ _ c.end_all.result has c.end_all.ensures.ends c.end_all.ensures.fit
