use Rattle.std.proofs.Common.{arith}
use Rattle.art_workers.proofs.Lists.{last_of, one_fewer, one_more, rest_of}
use Rattle.art_workers.proofs.Starts.{starting_lost, starting_more}
use Rattle.art_workers.proofs.serving.start_each.Goals as goal

pub start-requires-after_bounds : goal.start-requires-after_bounds
start-requires-after_bounds g c κs within =
    last_of c.args.table.now c.loop-pass.passes.items c.pop.new.self.items c.in-Some.pass c.in-Some.ensures.items c.loop-pass.invariant.of

pub loop-pass-preserved : goal.loop-pass-preserved
loop-pass-preserved g c =
    let i = c.loop-pass.invariant in
    let t = c.args.table.now in
    let before = c.loop-pass.passes.items in
    let rest = c.pop.new.self.items in
    let p = c.in-Some.pass in
    let running = c.loop-pass.running.items in
    let worker = c.in-Some-start.worker in
    let more = c.insert.new.self.items in
    let last = c.in-Some.ensures.items in
    let first = c.in-Ok.ensures.items in
    let fewer = one_fewer before rest p last in
    let task = c.in-Some-start.ensures in
    let longer = one_more more running worker first in
    let wide = c.in-Ok.ensures.capacity in
    let room = i.room in
    let few = i.few in
    record {
      of = rest_of t before rest p last i.of;
      room = omega (arith, room, fewer, longer, wide);
      few = omega (arith, few, fewer, longer);
      starts = starting_more t c.args.passes.items before rest p running c.loop-pass.all last i.starts worker more task first;
    }

pub loop-pass-preserved-in_default-start : goal.loop-pass-preserved-in_default-start
loop-pass-preserved-in_default-start g c =
    let i = c.loop-pass.invariant in
    let t = c.args.table.now in
    let before = c.loop-pass.passes.items in
    let rest = c.pop.new.self.items in
    let p = c.in-Some.pass in
    let last = c.in-Some.ensures.items in
    let fewer = one_fewer before rest p last in
    let room = i.room in
    let few = i.few in
    record {
      of = rest_of t before rest p last i.of;
      room = omega (arith, room, fewer);
      few = omega (arith, few, fewer);
      starts = starting_lost t c.args.passes.items before rest p c.loop-pass.running.items c.loop-pass.all last i.starts;
    }
