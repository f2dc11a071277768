use Rattle.std.proofs.Common.{subst, sym}
use Rattle.std.proofs.lemmas.Result.{IfErr-weaker}
use Rattle.std.specs.Prelude.{Result}
use Rattle.art_scan.proofs.Commands.{call_given, call_runs, look_runs, over_given}
use Rattle.art_scan.proofs.running.Running.abandon.Goals as goal
use Rattle.art_scan.specs.Running.{FreeAt, GoesOn}
use Rattle.art_scan.specs.declared.faults.ScanFault.{ScanFault}
use Rattle.art_scan.specs.declared.running.Stage.{Stage}
use Rattle.art_scan.specs.declared.running.Stage.TheVariants.{Over}
use Rattle.art_scan.specs.declared.scans.More.{More}

pub abandon-requires : goal.abandon-requires
abandon-requires c =
    let t = c.args.table.now in
    let r = c.requires in
    let on = subst (λ (s : Stage). GoesOn t r.0 r.1 r.2 s c.args.rows.now.items) c.in-Call.is r.3 in
    let runs = call_runs t r.0 r.1 r.2 c.in-Call.attempt c.args.rows.now.items on in
    (runs.0, r.1, r.2, runs.1)

pub abandon-requires-in-Look : goal.abandon-requires-in-Look
abandon-requires-in-Look c =
    let t = c.args.table.now in
    let r = c.requires in
    look_runs t r.0 r.1 r.2 c.in-Look.looking c.args.rows.now.items (subst (λ (s : Stage). GoesOn t r.0 r.1 r.2 s c.args.rows.now.items) c.in-Look.is r.3)

pub returns-in-Ok-clause-given : goal.returns-in-Ok-clause-given
returns-in-Ok-clause-given c k turns p on =
    let t = c.args.table.now in
    let rows = c.args.rows.now.items in
    call_given t c.in-Call.attempt c.in-Ok.pass c.in-Ok.ensures.given k turns p rows (subst (λ (s : Stage). GoesOn t k turns p s rows) c.in-Call.is on)

pub returns-in-Err-clause-why : goal.returns-in-Err-clause-why
returns-in-Err-clause-why c k turns p on =
    let t = c.args.table.now in
    let rows = c.args.rows.now.items in
    let runs = call_runs t k turns p c.in-Call.attempt rows (subst (λ (s : Stage). GoesOn t k turns p s rows) c.in-Call.is on) in
    c.in-Err.ensures.why runs.0 turns p runs.1

pub returns-in-Look-clause-why : goal.returns-in-Look-clause-why
returns-in-Look-clause-why c = IfErr-weaker c.abandon-in-Look.result _ _ (λ r why k turns p on. why p) c.abandon-in-Look.ensures.why

pub returns-in-Err-result-clause-given : goal.returns-in-Err-result-clause-given
returns-in-Err-result-clause-given c k turns p on =
    let t = c.args.table.now in
    let rows = c.args.rows.now.items in
    let q = c.in-Over.pass in
    let over = subst (λ (s : Stage). GoesOn t k turns p s rows) c.in-Over.is on in
    over_given t k turns p q c.in-Err-result.field-0 c.in-Over.restarts rows
    (subst (λ (r : Result More ScanFault). GoesOn t k turns p (Over q r c.in-Over.restarts) rows) c.in-Err-result.is over)

pub returns-in-Ok-clause-free : goal.returns-in-Ok-clause-free
returns-in-Ok-clause-free c k turns p on =
    let t = c.args.table.now in
    let rows = c.args.rows.now.items in
    let runs = call_runs t k turns p c.in-Call.attempt rows (subst (λ (s : Stage). GoesOn t k turns p s rows) c.in-Call.is on) in
    subst (λ (s : Stage). FreeAt p s) (sym c.in-Call.is) (c.in-Ok.ensures.free runs.0 turns p runs.1)
