-- One word was read, and noted.
use Rattle.std.proofs.Common.{◌≡◌, ◌∙◌, ◌+◌, ◌-◌, ℕ, sym, subst, arith}
use Rattle.art_find.proofs.Runs.{one_read}
use Rattle.art_find.specs.Rereadings.{RereadingFits}
use Rattle.art_attempt.proofs.LongPaths.{may_read_on}
use Rattle.art_attempt.proofs.Validates.{inside, knows_read, left_after_reads, node_stays, not_all_known, not_known, read_row, same_stamp, until_read}
use Rattle.art_attempt.specs.Validate.{left_after, reads_of}
use Rattle.art_step.specs.Steps.Read.{Outcome as ReadOutcome}
use Rattle.art_step.specs.declared.views.Stamp.{Stamp}
use Rattle.art_attempt.proofs.validate.read_told.Goals as goal

pub unreachable-requires : goal.unreachable-requires
unreachable-requires c = let q = c.requires in let reading = q.4.stage.2 in let at = reading.is in let no = c.in_default.is in let is = c.stamp.ensures in cc

pub note-requires : goal.note-requires
note-requires c = let q = c.requires in inside q.0 c.args.position.now c.args.cells.now c.args.read_set.now c.args.lower.now q.3 c.args.role c.args.rereading q.4.stage.2

pub returns-clause-left : goal.returns-clause-left
returns-clause-left c =
    let q = c.requires in
    let few = c.read_on.ensures.few in
    let further = c.note.ensures.further in
    let room = inside q.0 c.args.position.now c.args.cells.now c.args.read_set.now c.args.lower.now q.3 c.args.role c.args.rereading q.4.stage.2 in
    omega (arith, few, further, room)

pub returns-clause-node : goal.returns-clause-node
returns-clause-node c =
    let q = c.requires in
    let t = c.args.position.now in
    let o = c.args.cells.now in
    let role = c.args.role in
    let read_set = c.args.read_set.now in
    let lower = c.args.lower.now in
    let reading = q.4.stage.2 in
    node_stays t o role read_set c.note.new.read_set lower c.note.new.lower c.note.ensures.others
    (c.note.ensures.stays (not_known q.0 q.3 reading.stamp c.args.rereading (reads_of read_set lower role) reading.fits reading.more)).0
    (λ here known. absurd (not_all_known q.0 t o read_set lower q.3 role c.args.rereading reading here known))

pub returns-clause-fits : goal.returns-clause-fits
returns-clause-fits c z k deed u v w asked fits is row =
    let t = c.args.position.now in
    let o = c.args.cells.now in
    let role = c.args.role in
    let read_set = c.args.read_set.now in
    let lower = c.args.lower.now in
    let read_set' = c.note.new.read_set in
    let lower' = c.note.new.lower in
    let reading = fits.stage.2 in
    let i = c.args.rereading.place in
    let at = same_stamp z t o read_set lower v role c.args.rereading reading in
    let x = reading.stamp in
    let word = subst (λ (n : ℕ). ReadOutcome z v w x i n) (sym c.found.ensures) (read_row z t o read_set lower v role c.args.rereading reading deed asked c.args.answer w is row) in
    let now = c.note.ensures.fits z v w x reading.fits reading.more word in
    let only = one_read z v w x i c.found.result word in
    let further = c.note.ensures.further in
    let room = inside z t o read_set lower v role c.args.rereading reading in
    let is_stamp = sym c.stamp.ensures ∙ c.in-Some.is in
    let same : x ≡ c.in-Some.stamp = at c.in-Some.stamp is_stamp in
    c.read_on.ensures.fits z k u w
    (knows_read z k t o read_set read_set' lower lower' u v w 1 only fits.stage.0 role x reading.is c.note.ensures.others now.kept (not_all_known z t o read_set lower v role c.args.rereading reading))
    (until_read z k t o read_set read_set' lower lower' u v w 1 only fits.stage.0 role c.note.ensures.others fits.stage.1)
    is_stamp
    (subst (λ (y : Stamp). RereadingFits z w y c.note.new.rereading (reads_of read_set' lower' role)) same now)
    (may_read_on t role read_set read_set' lower lower' c.note.ensures.others (c.note.ensures.stays (not_known z v x c.args.rereading (reads_of read_set lower role) reading.fits reading.more)).1 fits.stage.3)
    (left_after_reads u v w 1 (266 - i + left_after role) (266 - c.note.new.rereading.place + left_after role) 798 only (omega (arith, further, room)) (record { failures = fits.failures; steps = fits.steps }))
