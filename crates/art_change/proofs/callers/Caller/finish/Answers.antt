use Rattle.std.proofs.Common.{Option, ap}
use Rattle.std.specs.Option.{option_map}
use Rattle.art_change.proofs.callers.Caller.finish.Goals as goal
use Rattle.art_change.specs.Outcomes.{of_seek, of_write}
use Rattle.art_change.specs.declared.writes.WriteOutcome.{WriteOutcome}
use Rattle.art_look.specs.Seeks.{seen_at}
use Rattle.art_look.specs.declared.walks.Outcome.{Outcome as SeekOutcome}

pub returns-in-Write-clause-ended : goal.returns-in-Write-clause-ended
returns-in-Write-clause-ended g c =
    let e = c.finish.ensures.ended in
    (of_write e.0, ap (λ (o : Option WriteOutcome). option_map of_write o) e.1)

pub returns-in-Seek-clause-ended : goal.returns-in-Seek-clause-ended
returns-in-Seek-clause-ended g c =
    let a = c.args.self.now in
    let e = c.finish-in-Seek.ensures.ended in
    let seen = seen_at c.finish-in-Seek.new.seek a.key.items a.hi c.finish-in-Seek.new.path_buffer in
    (of_seek e.0 seen, ap (λ (o : Option SeekOutcome). option_map (λ s. of_seek s seen) o) e.1)
