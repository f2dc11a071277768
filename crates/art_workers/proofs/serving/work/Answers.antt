use Rattle.art_workers.proofs.Chains.{had_more}
use Rattle.art_workers.proofs.serving.work.Goals as goal

pub loop-ended-preserved : goal.loop-ended-preserved
loop-ended-preserved g c =
    let result = c.session-back.result in
    let e = c.session-back.ensures in
    let s = e.session in
    had_more c.args.table.now (record { read = s.0; written = s.1; end = result.1 }) c.args.pass c.loop-ended.pass result.0
    c.loop-ended.ended c.loop-ended.invariant e.pass s.4
