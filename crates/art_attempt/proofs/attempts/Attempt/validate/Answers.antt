use Rattle.std.proofs.Common.{subst, sym}
use Rattle.art_attempt.proofs.CaseCells.{stands_begins}
use Rattle.art_attempt.proofs.Stages.{goes_on_at}
use Rattle.art_attempt.proofs.Tries.{later_first}
use Rattle.art_attempt.proofs.attempts.Attempt.validate.Goals as goal
use Rattle.art_attempt.specs.Validate.{BelowFits, Fits as ValidateFits}
use Rattle.art_attempt.specs.declared.attempts.Part.TheVariants as parts
use Rattle.art_attempt.specs.declared.validate.Cells.{Cells}

pub returns-clause-fits : goal.returns-clause-fits
returns-clause-fits c z u v room so of standing known below =
    let m = c.args.self.now in
    let t = c.args.position.now in
    let r = c.args.room.now in
    let cells = c.cells-cells.ensures in
    let then = subst (λ (o : Cells). BelowFits z r.row.key.items t r.read_set o.lower r.lower v v) (sym cells) below in
    let fits = c.new-validate.ensures.fits z r.row.key.items v (record { stands = stands_begins z u 21702 t r v so standing; below = then }) in
    goes_on_at z u m c.go_on.new.self t (parts.Validate c.args.case c.new-validate.result) r v c.go_on.ensures room (
      record {
        early = v;
        base = so.still;
        later = later_first v;
        spent = so.spent;
        has = so.has;
        case = of;
        known = known;
        fits = subst (λ (o : Cells). ValidateFits z r.row.key.items t o c.new-validate.result r.read_set r.lower v v) cells fits;
      },
      c.new-validate.ensures.going,
    )
