use Rattle.std.proofs.Common.{subst, rules}
use Rattle.art_scan.proofs.Commands.{call_runs, look_runs}
use Rattle.art_scan.proofs.running.Running.finish.Goals as goal
use Rattle.art_scan.specs.Running.{GoesOn}
use Rattle.art_scan.specs.declared.running.Stage.{Stage}

pub finish-pass-requires : goal.finish-pass-requires
finish-pass-requires c =
    let t = c.args.table.now in
    let r = c.requires in
    let on = subst (λ (s : Stage). GoesOn t r.0 r.1 r.2 s c.args.rows.now.items) c.in-Call.is r.3 in
    let runs = call_runs t r.0 r.1 r.2 c.in-Call.attempt c.args.rows.now.items on in
    (runs.0, r.1, r.2, runs.1)

pub finish-pass-requires-in-Look : goal.finish-pass-requires-in-Look
finish-pass-requires-in-Look c =
    let t = c.args.table.now in
    let r = c.requires in
    look_runs t r.0 r.1 r.2 c.in-Look.looking c.args.rows.now.items (subst (λ (s : Stage). GoesOn t r.0 r.1 r.2 s c.args.rows.now.items) c.in-Look.is r.3)

pub returns-in-Over-clause-ends : goal.returns-in-Over-clause-ends
returns-in-Over-clause-ends c = search rules
