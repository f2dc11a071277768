use Rattle.std.proofs.Common.{subst}
use Rattle.art_scan.proofs.Commands.{call_goes_on, call_runs, look_runs}
use Rattle.art_scan.proofs.running.Running.step.Goals as goal
use Rattle.art_scan.specs.Running.{GoesOn}
use Rattle.art_scan.specs.declared.running.Stage.{Stage}

pub step-requires : goal.step-requires
step-requires c =
    let t = c.args.table.now in
    let r = c.requires in
    let on = subst (λ (s : Stage). GoesOn t r.0 r.1 r.2 s c.args.rows.now.items) c.in-Call.is r.3 in
    let runs = call_runs t r.0 r.1 r.2 c.in-Call.attempt c.args.rows.now.items on in
    (runs.0, r.1, r.2, runs.1)

pub step-requires-in-Look : goal.step-requires-in-Look
step-requires-in-Look c =
    let t = c.args.table.now in
    let r = c.requires in
    look_runs t r.0 r.1 r.2 c.in-Look.looking c.args.rows.now.items (subst (λ (s : Stage). GoesOn t r.0 r.1 r.2 s c.args.rows.now.items) c.in-Look.is r.3)

pub returns-in-Call-clause-goes_on : goal.returns-in-Call-clause-goes_on
returns-in-Call-clause-goes_on c k turns p on =
    let t = c.args.table.now in
    let rows = c.args.rows.now.items in
    call_goes_on t c.in-Call.attempt c.step.new.self c.step.ensures.goes_on k turns p rows (subst (λ (s : Stage). GoesOn t k turns p s rows) c.in-Call.is on)
