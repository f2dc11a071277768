-- Words of one cell were read, and noted.
use Rattle.std.proofs.Common.{◌≡◌, ◌∙◌, ◌+◌, ◌-◌, ◌<◌, ◌≤◌, sym, subst, arith, ⊎_elim}
use Rattle.art_find.specs.Rereadings.{RereadingFits}
use Rattle.art_attempt.proofs.LongPaths.{lower_stays, may_read_on}
use Rattle.art_attempt.proofs.Validates.{inside, knows_read, left_after_reads, node_run, not_all_known, same_stamp, until_read}
use Rattle.art_attempt.specs.Validate.{left_after, reads_of}
use Rattle.art_step.specs.Views.{size_of}
use Rattle.art_step.specs.declared.views.Stamp.{Stamp}
use Rattle.art_attempt.proofs.validate.read_cell.Goals as goal

pub unreachable-requires : goal.unreachable-requires
unreachable-requires g c = let reading = c.requires.fits.2.stage.2 in let at = reading.is in let no = c.in_default.is in let is = c.stamp.ensures in cc

pub read_all-requires-clause-fits : goal.read_all-requires-clause-fits
read_all-requires-clause-fits g c =
    let z = g.S.Steps.sizes c.args.steps.now in
    let v = g.S.Steps.view c.args.steps.now in
    let reading = c.requires.fits.2.stage.2 in
    let same = same_stamp z c.args.position.now c.args.cells.now c.args.read_set.now c.args.lower.now v c.args.role c.args.rereading reading c.in-Some.stamp (sym c.stamp.ensures ∙ c.in-Some.is) in
    subst (λ (y : Stamp). RereadingFits z v y c.args.rereading (reads_of c.args.read_set.now c.args.lower.now c.args.role)) same reading.fits

pub returns-clause-turns : goal.returns-clause-turns
returns-clause-turns g c =
    let e = c.read_all.ensures in
    let some = e.turns.0 in
    let less = e.turns.1 in
    let made = e.read.only.steps in
    record { some = some; less = less; made = omega (arith, made, less) }

pub returns-clause-less : goal.returns-clause-less
returns-clause-less g c =
    let z = g.S.Steps.sizes c.args.steps.now in
    let v = g.S.Steps.view c.args.steps.now in
    let reading = c.requires.fits.2.stage.2 in
    let e = c.read_all.ensures in
    let few = c.read_on.ensures.few in
    let further = e.read.further in
    let less = e.turns.1 in
    let more = c.requires.some in
    let same = same_stamp z c.args.position.now c.args.cells.now c.args.read_set.now c.args.lower.now v c.args.role c.args.rereading reading c.in-Some.stamp (sym c.stamp.ensures ∙ c.in-Some.is) in
    let within = subst (λ (y : Stamp). c.args.rereading.place < size_of y.cell) same reading.more in
    let room = inside z c.args.position.now c.args.cells.now c.args.read_set.now c.args.lower.now v c.args.role c.args.rereading reading in
    ⊎_elim
    (λ (all : size_of c.in-Some.stamp.cell ≤ c.read_all.new.rereading.place). omega (arith, all, within, few, less, room))
    (λ (one : c.read_all.new.left ≡ 1). omega (arith, one, few, further, more))
    e.last

pub returns-clause-node : goal.returns-clause-node
returns-clause-node g c =
    let z = g.S.Steps.sizes c.args.steps.now in
    let v = g.S.Steps.view c.args.steps.now in
    let t = c.args.position.now in
    let o = c.args.cells.now in
    let reading = c.requires.fits.2.stage.2 in
    node_run t o c.args.role c.args.read_set.now c.read_all.new.read_set c.args.lower.now c.read_all.new.lower c.read_all.ensures.others c.read_all.ensures.read.stays
    (not_all_known z t o c.args.read_set.now c.args.lower.now v c.args.role c.args.rereading reading)

pub returns-clause-found : goal.returns-clause-found
returns-clause-found g c = c.read_all.ensures.read.only.found

pub returns-clause-fits : goal.returns-clause-fits
returns-clause-fits g c k u fits =
    let z = g.S.Steps.sizes c.args.steps.now in
    let v = g.S.Steps.view c.args.steps.now in
    let w = g.S.Steps.view c.read_all.new.steps in
    let t = c.args.position.now in
    let o = c.args.cells.now in
    let role = c.args.role in
    let read_set = c.args.read_set.now in
    let lower = c.args.lower.now in
    let read_set' = c.read_all.new.read_set in
    let lower' = c.read_all.new.lower in
    let r = c.args.rereading in
    let r' = c.read_all.new.rereading in
    let n = c.args.left.now - c.read_all.new.left in
    let reading = fits.stage.2 in
    let done = c.read_all.ensures.read in
    let room = inside z t o read_set lower v role r reading in
    let few = done.few (omega (arith, room)) in
    let further = done.further in
    let is_stamp = sym c.stamp.ensures ∙ c.in-Some.is in
    c.read_on.ensures.fits z k u w
    (knows_read z k t o read_set read_set' lower lower' u v w n done.only fits.stage.0 role c.in-Some.stamp is_stamp c.read_all.ensures.others done.fits.kept (not_all_known z t o read_set lower v role r reading))
    (until_read z k t o read_set read_set' lower lower' u v w n done.only fits.stage.0 role c.read_all.ensures.others fits.stage.1)
    is_stamp done.fits
    (may_read_on t role read_set read_set' lower lower' c.read_all.ensures.others (lower_stays role read_set read_set' lower lower' c.read_all.ensures.others done.stays) fits.stage.3)
    (left_after_reads u v w n (266 - r.place + left_after role) (266 - r'.place + left_after role) 798 done.only (omega (arith, further, few)) (record { failures = fits.failures; steps = fits.steps }))
