use Rattle.std.proofs.Common.{◌∙◌, sym, subst}
use Rattle.std.specs.Prelude.{Result, Err}
use Rattle.art_scan.proofs.LooksOn.{answer_seen, answered_as, look_refused, looked}
use Rattle.art_scan.proofs.Over.{scanning_all}
use Rattle.art_scan.proofs.looking.Looking.finish.Goals as goal
use Rattle.art_table.specs.Calls.{Ends}
use Rattle.art_table.specs.declared.faults.Fault.{Fault}
use Rattle.art_table.specs.declared.jobs.Job.TheVariants.{Look}
use Rattle.art_table.specs.declared.jobs.Outcome.{Outcome}
use Rattle.art_scan.specs.Scans.{Scans}
use Rattle.art_scan.specs.declared.faults.ScanFault.TheVariants.{Busy}
use Rattle.std.specs.Prelude.{List}
use Rattle.art_model.specs.declared.rows.Row.{Row}

pub returns-in_default-clause-scans : goal.returns-in_default-clause-scans
returns-in_default-clause-scans c lo hi limit turns p on =
    let t = c.args.table.now in
    let l = c.args.self in
    let q = c.finish-pass.result.0 in
    let e = subst (λ (y : Result Outcome Fault). Ends t (Look l.tiling.from l.tiling.end) l.tiling.turns on.began y q) c.in_default.is
    (c.finish-pass.ensures.ends (Look l.tiling.from l.tiling.end) l.tiling.turns on.began on.look) in
    subst (λ (rows : List Row). Scans t lo hi limit turns p rows (Err Busy) q) (sym c.clear.ensures)
    (look_refused t lo hi limit turns p c.args.rows.now.items l on q c.in_default.field-0 e)

pub seen_in-requires : goal.seen_in-requires
seen_in-requires c =
    let l = c.args.self in
    let r = c.requires in
    let on = r.5 in
    answer_seen c.args.table.now r.0 r.1 r.2 r.3 r.4 c.args.rows.now.items l on c.in-Ok.outcome c.finish-pass.result.1 c.finish-pass.result.0 c.in-Ok.is
    (c.finish-pass.ensures.ends (Look l.tiling.from l.tiling.end) l.tiling.turns on.began on.look)

pub look_to_the_end-result-requires-clause-scanning : goal.look_to_the_end-result-requires-clause-scanning
look_to_the_end-result-requires-clause-scanning c =
    let t = c.args.table.now in
    let l = c.args.self in
    let r = c.requires in
    let on = r.5 in
    let rows = c.args.rows.now.items in
    let told = c.told.ensures in
    let e = answered_as t r.0 r.1 r.2 r.3 r.4 rows l on c.in-Ok.outcome c.seen_in.result c.finish-pass.result.1 c.finish-pass.result.0 c.in-Ok.is c.seen_in.ensures
    (c.finish-pass.ensures.ends (Look l.tiling.from l.tiling.end) l.tiling.turns on.began on.look) in (
      r.0,
      r.1,
      r.2,
      r.3,
      r.4,
      scanning_all t r.0 r.1 r.2 r.3 r.4 c.finish-pass.result.0 c.told.new.out.items c.told.new.self c.len-listed.result c.len-listed.ensures.value
          (looked t r.0 r.1 r.2 r.3 r.4 rows l on c.finish-pass.result.0 c.seen_in.result e c.told.new.self c.told.new.out.items told.from (told.turns ∙ c.turns_left.ensures) told.same told.rows),
    )

pub returns-clause-scans : goal.returns-clause-scans
returns-clause-scans c lo hi limit turns p on =
    let t = c.args.table.now in
    let l = c.args.self in
    let rows = c.args.rows.now.items in
    let told = c.told.ensures in
    let e = answered_as t lo hi limit turns p rows l on c.in-Ok.outcome c.seen_in.result c.finish-pass.result.1 c.finish-pass.result.0 c.in-Ok.is c.seen_in.ensures
    (c.finish-pass.ensures.ends (Look l.tiling.from l.tiling.end) l.tiling.turns on.began on.look) in
    c.look_to_the_end-result.ensures.scans lo hi limit turns p
    (scanning_all t lo hi limit turns p c.finish-pass.result.0 c.told.new.out.items c.told.new.self c.len-listed.result c.len-listed.ensures.value
    (looked t lo hi limit turns p rows l on c.finish-pass.result.0 c.seen_in.result e c.told.new.self c.told.new.out.items told.from (told.turns ∙ c.turns_left.ensures) told.same told.rows))
