-- The validation runs where it stands, and what it came to is looked at.
use Rattle.std.proofs.Common.{arith}
use Rattle.art_attempt.proofs.CaseCells.{is_validating_on, may_validate}
use Rattle.art_attempt.proofs.Stages.{at_part}
use Rattle.art_attempt.specs.declared.attempts.Part.TheVariants as parts
use Rattle.art_attempt.proofs.attempts.Attempt.validate_all.Goals as goal

pub run-requires-clause-fits : goal.run-requires-clause-fits
run-requires-clause-fits g c =
    let z = g.S.Steps.sizes c.args.steps.now in
    let v = g.S.Steps.view c.args.steps.now in
    let m = c.args.self.now in
    let t = c.in-Placed.position in
    let k = c.in-Validate.case in
    let s = c.in-Validate.validate in
    let r = c.args.room.now in
    let q = c.requires.fits in
    let h = (at_part z q.0 m r v t c.in-Placed.part (parts.Validate k s) c.in-Placed.is c.in-Validate.is q.1).0 in
    (r.row.key.items, h.early, may_validate z q.0 m.job t k s r v h c.cells-cells.result c.cells-cells.ensures)

pub validate_on-requires-clause-validating : goal.validate_on-requires-clause-validating
validate_on-requires-clause-validating g c =
    let z = g.S.Steps.sizes c.args.steps.now in
    let v = g.S.Steps.view c.args.steps.now in
    let w = g.S.Steps.view c.run.new.steps in
    let m = c.args.self.now in
    let t = c.in-Placed.position in
    let k = c.in-Validate.case in
    let s = c.in-Validate.validate in
    let r = c.args.room.now in
    let n = c.run.new in
    let q = c.requires.fits in
    let h = (at_part z q.0 m r v t c.in-Placed.part (parts.Validate k s) c.in-Placed.is c.in-Validate.is q.1).0 in
    let o = c.cells-cells.result in
    let cells = c.cells-cells.ensures in
    let after = c.run.ensures.fits r.row.key.items h.early (may_validate z q.0 m.job t k s r v h o cells) in
    let made = c.run.ensures.turns.made in
    let less = c.run.ensures.turns.less in (
      z,
      q.0,
      w,
      record { sizes = q.1.room.sizes; key = q.1.room.key },
      is_validating_on z q.0 m.job t k s r v h o cells w n.self n.read_set n.lower (omega (arith, made, less)) c.run.ensures.found c.run.ensures.node after,
    )

pub returns-clause-fits : goal.returns-clause-fits
returns-clause-fits g c u fits =
    let z = g.S.Steps.sizes c.args.steps.now in
    let v = g.S.Steps.view c.args.steps.now in
    let w = g.S.Steps.view c.run.new.steps in
    let m = c.args.self.now in
    let t = c.in-Placed.position in
    let k = c.in-Validate.case in
    let s = c.in-Validate.validate in
    let r = c.args.room.now in
    let n = c.run.new in
    let h = (at_part z u m r v t c.in-Placed.part (parts.Validate k s) c.in-Placed.is c.in-Validate.is fits).0 in
    let o = c.cells-cells.result in
    let cells = c.cells-cells.ensures in
    let after = c.run.ensures.fits r.row.key.items h.early (may_validate z u m.job t k s r v h o cells) in
    let made = c.run.ensures.turns.made in
    let less = c.run.ensures.turns.less in
    c.validate_on.ensures.fits z u w (record { sizes = fits.room.sizes; key = fits.room.key })
    (is_validating_on z u m.job t k s r v h o cells w n.self n.read_set n.lower (omega (arith, made, less)) c.run.ensures.found c.run.ensures.node after)
