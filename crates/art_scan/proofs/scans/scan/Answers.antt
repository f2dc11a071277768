use Rattle.std.proofs.Common.{refl, take}
use Rattle.art_scan.proofs.Ended.{scanning}
use Rattle.art_scan.proofs.scans.scan.Goals as goal

pub look_to_the_end-requires-clause-scanning : goal.look_to_the_end-requires-clause-scanning
look_to_the_end-requires-clause-scanning c =
    let e = c.in-Ok.ensures in (
      c.args.lo.now,
      c.args.hi.now,
      c.args.limit,
      c.args.turns,
      c.args.pass.now,
      scanning c.args.table.now c.args.lo.now c.args.hi.now c.args.limit c.args.turns c.schema.result.now c.schema.ensures c.in-Ok.tiling e.none e.stands e.range e.limit e.turns c.args.pass.now
          (take 0 c.args.out.now.items) c.requires refl,
    )

pub returns-in-Ok-clause-scans : goal.returns-in-Ok-clause-scans
returns-in-Ok-clause-scans c =
    let e = c.in-Ok.ensures in
    c.look_to_the_end.ensures.scans c.args.lo.now c.args.hi.now c.args.limit c.args.turns c.args.pass.now
    (scanning c.args.table.now c.args.lo.now c.args.hi.now c.args.limit c.args.turns c.schema.result.now c.schema.ensures c.in-Ok.tiling e.none e.stands e.range e.limit e.turns c.args.pass.now
    (take 0 c.args.out.now.items) c.requires refl)
