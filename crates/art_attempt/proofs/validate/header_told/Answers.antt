-- The header of the node below was read, and noted.
use Rattle.std.proofs.Common.{◌≡◌, ◌∙◌, ◌+◌, ◌-◌, ◌≤◌, ℕ, refl, sym, subst, arith}
use Rattle.art_find.proofs.Runs.{one_read}
use Rattle.art_find.specs.Rereadings.{RereadingFits}
use Rattle.art_attempt.proofs.LongPaths.{after_few, after_fits}
use Rattle.art_attempt.proofs.Validates.{inside, knows_read, left_after_reads, not_all_known, read_row, same_stamp, until_read}
use Rattle.art_attempt.specs.Validate.{Fits, steps_left}
use Rattle.art_attempt.specs.declared.validate.Role.TheVariants.{Lower}
use Rattle.art_attempt.specs.declared.validate.Validate.{Validate}
use Rattle.art_step.specs.Steps.Read.{Outcome as ReadOutcome}
use Rattle.art_step.specs.declared.views.Stamp.{Stamp}
use Rattle.art_attempt.proofs.validate.header_told.Goals as goal

pub unreachable-requires : goal.unreachable-requires
unreachable-requires c = let q = c.requires in let reading = q.4.stage.2 in let at = reading.is in let no = c.in_default.is in let is = c.stamp.ensures in cc

pub told-requires : goal.told-requires
told-requires c = let q = c.requires in inside q.0 c.args.position.now c.args.cells.now c.args.read_set.now c.args.lower.now q.3 Lower c.args.rereading q.4.stage.2

pub returns-clause-left : goal.returns-clause-left
returns-clause-left c =
    let q = c.requires in
    let r = c.args.rereading in
    let few = c.read_on-others.ensures.few in
    let further = c.told.ensures.steps in
    let room = inside q.0 c.args.position.now c.args.cells.now c.args.read_set.now c.args.lower.now q.3 Lower r q.4.stage.2 in
    let less = subst (λ (m : Validate). steps_left m ≤ 266 - c.told.new.self.place + 3) (sym c.after_header.ensures)
    (after_few _ (266 - c.told.new.self.place + 3) c.read_on-others.result (omega arith) few) in
    omega (arith, less, further, room)

pub returns-clause-fits : goal.returns-clause-fits
returns-clause-fits c z k deed u v w asked fits is row =
    let t = c.args.position.now in
    let o = c.args.cells.now in
    let read_set = c.args.read_set.now in
    let lower = c.args.lower.now in
    let lower' = c.told.new.reads in
    let r = c.args.rereading in
    let r' = c.told.new.self in
    let reading = fits.stage.2 in
    let x = reading.stamp in
    let word = subst (λ (n : ℕ). ReadOutcome z v w x r.place n) (sym c.found.ensures) (read_row z t o read_set lower v Lower r reading deed asked c.args.answer w is row) in
    let now = c.told.ensures.fits z v w x reading.fits reading.more word in
    let only = one_read z v w x r.place c.found.result word in
    let further = c.told.ensures.steps in
    let room = inside z t o read_set lower v Lower r reading in
    let after = reading.fits.after in
    let is_stamp = sym c.stamp.ensures ∙ c.in-Some.is in
    let same : x ≡ c.in-Some.stamp = same_stamp z t o read_set lower v Lower r reading c.in-Some.stamp is_stamp in
    let known = now.known 1 (omega arith) (omega (arith, further, after)) in
    let knows = knows_read z k t o read_set read_set lower lower' u v w 1 only fits.stage.0 Lower x reading.is refl now.kept (not_all_known z t o read_set lower v Lower r reading) in
    let until = until_read z k t o read_set read_set lower lower' u v w 1 only fits.stage.0 Lower refl fits.stage.1 in
    let left = left_after_reads u v w 1 (266 - r.place + 3) (266 - r'.place + 3) 798 only (omega (arith, further, room)) (record { failures = fits.failures; steps = fits.steps }) in
    subst (λ (m : Validate). Fits z k t o m read_set lower' u w) (sym c.after_header.ensures)
    (after_fits z k t o read_set lower' u w knows until c.read_on-others.result x known.0 (266 - r'.place + 3) reading.is known.1 (omega arith) left
    (λ short. c.read_on-others.ensures.fits z k u w knows until is_stamp (subst (λ (y : Stamp). RereadingFits z w y r' lower') same now) short left))
