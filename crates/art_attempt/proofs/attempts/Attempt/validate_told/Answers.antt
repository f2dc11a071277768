use Rattle.std.proofs.Common.{◌∙◌, Some, ap}
use Rattle.art_attempt.proofs.Asked.{look_found, validate_asks_look, validate_looks}
use Rattle.art_attempt.proofs.CaseCells.{changed_by, is_validating_on, may_validate}
use Rattle.art_attempt.proofs.Stages.{asked_part, at_part}
use Rattle.art_attempt.proofs.Steps.{cell_later}
use Rattle.art_attempt.specs.Attempts.{deed_at}
use Rattle.art_attempt.specs.Cases.{cells_of}
use Rattle.art_attempt.specs.Validate.{asks}
use Rattle.art_attempt.specs.declared.attempts.Part.TheVariants as parts
use Rattle.art_attempt.specs.declared.validate.Cells.{Cells}
use Rattle.art_attempt.proofs.attempts.Attempt.validate_told.Goals as goal

pub told-requires : goal.told-requires
told-requires c =
    let m = c.args.self.now in
    let t = c.in-Placed.position in
    let k = c.in-Validate.case in
    let s = c.in-Validate.validate in
    let r = c.args.room.now in
    let q = c.requires.told in
    let h = (at_part q.0 q.1 m r q.2 t c.in-Placed.part (parts.Validate k s) c.in-Placed.is c.in-Validate.is q.5).0 in
    (q.0, r.row.key.items, h.early, q.2, may_validate q.0 q.1 m.job t k s r q.2 h c.cells-cells.result c.cells-cells.ensures)

pub validate_on-requires-clause-validating : goal.validate_on-requires-clause-validating
validate_on-requires-clause-validating c =
    let q = c.requires.told in
    let m = c.args.self.now in
    let t = c.in-Placed.position in
    let k = c.in-Validate.case in
    let s = c.in-Validate.validate in
    let r = c.args.room.now in
    let here = parts.Validate k s in
    let h = (at_part q.0 q.1 m r q.2 t c.in-Placed.part here c.in-Placed.is c.in-Validate.is q.5).0 in
    let is = asked_part m r t c.in-Placed.part here c.in-Placed.is c.in-Validate.is (Some q.4) q.6 in
    let o = c.cells-cells.result in
    let cells = c.cells-cells.ensures in
    let own = cells_of k t.verdict in
    let d = deed_at m r in
    let one = cell_later q.0 d q.4 c.args.answer q.2 q.3 (validate_asks_look t own s q.4 is) q.7 in
    let keeps = look_found q.0 d q.4 c.args.answer q.2 q.3 (validate_looks t own s q.4 is) q.7 in
    let after = c.told.ensures.fits q.0 r.row.key.items d h.early q.2 q.3 q.4 (may_validate q.0 q.1 m.job t k s r q.2 h o cells) (ap (λ (p : Cells). asks t p s) cells ∙ is) q.7 in
    let n = c.told.new in
    (q.0, q.1, q.3, record { sizes = q.5.room.sizes; key = q.5.room.key }, is_validating_on q.0 q.1 m.job t k s r q.2 h o cells q.3 n.self n.read_set n.lower one.steps keeps c.told.ensures.node after)

pub returns-clause-fits : goal.returns-clause-fits
returns-clause-fits c z u v w asked fits asks_it row =
    let m = c.args.self.now in
    let t = c.in-Placed.position in
    let k = c.in-Validate.case in
    let s = c.in-Validate.validate in
    let r = c.args.room.now in
    let here = parts.Validate k s in
    let h = (at_part z u m r v t c.in-Placed.part here c.in-Placed.is c.in-Validate.is fits).0 in
    let is = asked_part m r t c.in-Placed.part here c.in-Placed.is c.in-Validate.is (Some asked) asks_it in
    let o = c.cells-cells.result in
    let cells = c.cells-cells.ensures in
    let own = cells_of k t.verdict in
    let d = deed_at m r in
    let one = cell_later z d asked c.args.answer v w (validate_asks_look t own s asked is) row in
    let keeps = look_found z d asked c.args.answer v w (validate_looks t own s asked is) row in
    let after = c.told.ensures.fits z r.row.key.items d h.early v w asked (may_validate z u m.job t k s r v h o cells) (ap (λ (p : Cells). asks t p s) cells ∙ is) row in
    let n = c.told.new in
    c.validate_on.ensures.fits z u w (record { sizes = fits.room.sizes; key = fits.room.key })
    (is_validating_on z u m.job t k s r v h o cells w n.self n.read_set n.lower one.steps keeps c.told.ensures.node after)

pub returns-clause-anew : goal.returns-clause-anew
returns-clause-anew c anew =
    let q = c.requires.told in
    let m = c.args.self.now in
    let t = c.in-Placed.position in
    let k = c.in-Validate.case in
    let s = c.in-Validate.validate in
    let r = c.args.room.now in
    let here = parts.Validate k s in
    let h = (at_part q.0 q.1 m r q.2 t c.in-Placed.part here c.in-Placed.is c.in-Validate.is q.5).0 in
    let asked = asked_part m r t c.in-Placed.part here c.in-Placed.is c.in-Validate.is (Some q.4) q.6 in
    let o = c.cells-cells.result in
    let cells = c.cells-cells.ensures in
    let l = r.row.key.items in
    let d = deed_at m r in
    let is = ap (λ (p : Cells). asks t p s) cells ∙ asked in
    let before = may_validate q.0 q.1 m.job t k s r q.2 h o cells in
    let after = c.told.ensures.fits q.0 l d h.early q.2 q.3 q.4 before is q.7 in
    changed_by q.0 l t o s c.told.new.self r.read_set c.told.new.read_set r.lower c.told.new.lower d q.4 c.args.answer h.early q.2 q.3 before after is q.7 (c.validate_on.ensures.anew anew)
