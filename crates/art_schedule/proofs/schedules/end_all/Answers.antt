use Rattle.std.proofs.Common.{◌≡◌, Err, rules, arith}
use Rattle.art_schedule.proofs.WayLaws.{HasEnded-more, TriesAll-stopped}
use Rattle.art_schedule.proofs.schedules.end_all.Goals as goal

pub returns-in_err-end_place-clause-ends : goal.returns-in_err-end_place-clause-ends
returns-in_err-end_place-clause-ends g c =
    let is : c.from_residual.result ≡ Err c.in_err-end_place.field-0.0 = search rules in
    rw is (TriesAll-stopped c.args.table.now c.loop-place.place _ _ _ _ _ _ _ (omega (arith, c.loop-place-test.true)) c.loop-place.invariant.ended
    c.in_err-end_place.ensures.ends)

pub loop-place-preserved : goal.loop-place-preserved
loop-place-preserved g c = record {
  keeps = λ ps is. c.end_place.ensures.keeps ps (c.loop-place.invariant.keeps ps is);
  ended = HasEnded-more c.args.table.now c.loop-place.place _ _ _ _ _ _ _ c.loop-place.invariant.ended c.in_ok-end_place.ensures.ends;
}
