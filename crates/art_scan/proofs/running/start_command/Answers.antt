use Rattle.art_model.specs.declared.commands.Command.TheVariants.{Insert, Remove, Get, Scan}
use Rattle.std.proofs.Common.{ℕ, ◌<◌, subst, sym}
use Rattle.std.specs.Prelude.{List, Err, ◌≡◌, Some}
use Rattle.art_key.specs.declared.columns.Column.{Column}
use Rattle.art_scan.proofs.Commands.{as_is, first_looks, refused_at_once}
use Rattle.art_scan.proofs.Ended.{scanning}
use Rattle.art_scan.proofs.running.start_command.Goals as goal
use Rattle.art_scan.proofs.running.start_command.Goals.{in-Insert, in-Remove, in-Get, in-Scan+in-Ok, in-Scan+in-Err}
use Rattle.art_scan.specs.Scans.{scan_fault}
use Rattle.art_scan.specs.declared.running.Stage.TheVariants as stage

pub returns-clause-running : goal.returns-clause-running
returns-clause-running c =
    let t = c.args.table.now in
    let p = c.args.pass in
    let n = c.args.turns in
    let rows = c.clear.new.self.items in
    elim c.match-command.branch [
      | in-Insert w ↦ as_is t c.args.command (Insert w.in-Insert.tuple w.in-Insert.value) n p c.match-command.stage (stage.Call w.start.result) rows w.in-Insert.is w.stage-is w.start.ensures.attempt
      | in-Remove w ↦ as_is t c.args.command (Remove w.in-Remove.tuple) n p c.match-command.stage (stage.Call w.start-in-Remove.result) rows w.in-Remove.is w.stage-is w.start-in-Remove.ensures.attempt
      | in-Get w ↦ as_is t c.args.command (Get w.in-Get.tuple) n p c.match-command.stage (stage.Call w.start-in-Get.result) rows w.in-Get.is w.stage-is w.start-in-Get.ensures.attempt
      | in-Scan+in-Ok w ↦ let k = w.in-Scan in
          let e = w.in-Ok.ensures in
          let s = scanning t k.lo k.hi k.limit n w.schema.result.now w.schema.ensures w.in-Ok.tiling e.none e.stands e.range e.limit e.turns p rows c.requires c.clear.ensures in
          as_is t c.args.command (Scan k.lo k.hi k.limit) n p c.match-command.stage (stage.Look w.first.result) rows k.is w.stage-is
          (first_looks t k.lo k.hi k.limit n p rows c.clear.ensures w.in-Ok.tiling w.first.result s (subst (λ (m : ℕ). 0 < m) (sym e.limit.0) e.limit.1) e.order w.first.ensures.tiling w.first.ensures.look)
      | in-Scan+in-Err w ↦ let k = w.in-Scan in
          let some = subst (λ (schema : List Column). scan_fault schema k.lo k.hi k.limit ≡ Some w.in-Err.fault) w.schema.ensures w.in-Err.ensures.fault in
          as_is t c.args.command (Scan k.lo k.hi k.limit) n p c.match-command.stage (stage.Over p (Err w.in-Err.fault) 0) rows k.is w.stage-is
          (refused_at_once t k.lo k.hi k.limit n p rows c.clear.ensures c.requires w.in-Err.fault some)
    ]
