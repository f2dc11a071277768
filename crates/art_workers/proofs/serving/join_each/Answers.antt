use Rattle.std.proofs.Common.{arith, rules}
use Rattle.art_workers.proofs.Joins.{joined, joining_more}
use Rattle.art_workers.proofs.Lists.{no_items, one_fewer, one_more}
use Rattle.art_workers.proofs.serving.join_each.Goals as goal

pub loop-worker-preserved : goal.loop-worker-preserved
loop-worker-preserved g c =
    let i = c.loop-worker.invariant in
    let rest = c.pop.new.self.items in
    let worker = c.in-Some.worker in
    let items = c.in-Some.ensures.items in
    let passes = c.in-Ok.ensures.items in
    let ended = c.from-ended.ensures in
    let kept = c.join-worked.ensures in
    let below = kept.few in
    let long = one_fewer c.loop-worker.running.items rest worker items in
    let more = one_more c.insert.new.self.items c.loop-worker.passes.items c.join-worked.result.pass passes in
    let wide = c.in-Ok.ensures.capacity in
    let room = i.room in
    let few = i.few in
    record {
      room = omega (arith, room, long, more, wide);
      few = omega (arith, few, long, ended, below);
      joins = λ t started tasks.
          joining_more t started c.loop-worker.running.items rest worker c.loop-worker.passes.items c.insert.new.self.items
          c.loop-worker.ended c.from-ended.result c.join-worked.result items (i.joins t started tasks) kept passes ended;
    }

pub returns : goal.returns
returns g c = λ t started tasks.
    joined t started c.loop-worker.running.items c.loop-worker.passes.items c.loop-worker.ended
    (no_items c.loop-worker.running.items (search rules)) (c.loop-worker.invariant.joins t started tasks)
