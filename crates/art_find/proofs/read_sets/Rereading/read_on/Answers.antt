use Rattle.std.proofs.Common.{◌≡◌, ◌+◌, ◌-◌, ◌<◌, ◌∙◌, ℕ, None, inl, inr, length, refl, sym, subst, arith}
use Rattle.std.proofs.lemmas.List.{length-take, length-take-le}
use Rattle.art_cell.specs.Reads.{AreNoted, word_read}
use Rattle.art_find.proofs.Keeping.{cell_fits}
use Rattle.art_find.proofs.Runs.{fits_on, none_read_on, read_on_then, stays_noted}
use Rattle.art_find.specs.Rereadings.{AreKnown}
use Rattle.art_find.specs.Runs.{HasReadOn, HasReadOnly, WereRead}
use Rattle.art_step.specs.Shows.{HasStamp}
use Rattle.art_step.specs.declared.views.Sizes.{Sizes}
use Rattle.art_find.proofs.read_sets.Rereading.read_on.Goals as goal

pub loop-left-preserved : goal.loop-left-preserved
loop-left-preserved g c =
    let i = c.loop-left.invariant in
    let z = g.S.Steps.sizes c.args.steps.now in
    let u = g.S.Steps.view c.args.steps.now in
    let v = g.S.Steps.view c.loop-left.steps in
    let w = g.S.Steps.view c.read_run.new.steps in
    let x = c.args.stamp in
    let m = c.args.self.now in
    let m' = c.loop-left.self in
    let words = c.read_run.new.words in
    let many = c.min-many.result in
    let made = c.args.left.now - c.loop-left.left in
    let least = c.min-many.ensures in
    let fewer = c.min-unread.ensures in
    let more = c.loop-left-test.true in
    let low = c.if-self-end.true in
    let end = c.words_of-end.ensures in
    let fit = cell_fits x.cell in
    let within = c.unread_from.ensures.within in
    let long : length words ≡ many = c.read_run.ensures.long ∙ length-take-le many c.loop-left.words (omega (arith, least, fewer, within, c.min-many.array_long)) in
    let only : HasReadOnly v w (length words) = subst (HasReadOnly v w) (sym c.read_run.ensures.long) c.read_run.ensures.after in
    let were : WereRead z w x m'.place words = subst (λ (y : Sizes). WereRead y w x m'.place words) i.sizes c.read_run.ensures.read in
    let noted : AreNoted m'.place words c.loop-left.reads c.note_run.new.self = c.note_run.ensures in
    let unread : (j : ℕ) → j < length words → word_read c.loop-left.reads (m'.place + j) ≡ None = λ j below. c.unread_from.ensures.unread j (omega (arith, below, long, least, fewer)) in
    let next = c.unknown_from-self.ensures in
    let less = i.less in
    let from = next.from in
    record {
      only = g.met.S.Steps.only_then c.args.steps.now c.loop-left.steps c.read_run.new.steps i.only c.read_run.ensures.only;
      sizes = g.met.S.Steps.only_sizes c.loop-left.steps c.read_run.new.steps c.read_run.ensures.only ∙ i.sizes;
      some = omega (arith, more, least);
      less = omega (arith, less);
      read = subst (λ (n : ℕ). HasReadOn z x n u m c.args.reads.now w (record { place = c.unknown_from-self.result }) c.note_run.new.self) (omega (arith, long, less, more, least))
          (read_on_then z x made (length words) u v w m m' (record { place = c.unknown_from-self.result }) c.args.reads.now c.loop-left.reads c.note_run.new.self i.read (omega (arith, low, end)) only
          (omega (arith, from, long)) next.end (stays_noted c.loop-left.reads c.note_run.new.self m'.place words noted unread)
          (fits_on c.loop-left.reads c.note_run.new.self m'.place words noted z v w x only were m' (record { place = c.unknown_from-self.result }) refl i.read.fits (omega (arith, from, long))
          (subst (λ (n : ℕ). AreKnown c.note_run.new.self (m'.place + n) c.unknown_from-self.result) (sym long) next.known) next.unknown));
    }

pub returns-else-self-end-clause-only : goal.returns-else-self-end-clause-only
returns-else-self-end-clause-only g c = c.loop-left.invariant.only

pub returns-else-self-end-clause-some : goal.returns-else-self-end-clause-some
returns-else-self-end-clause-some g c = c.loop-left.invariant.some

pub returns-else-self-end-clause-less : goal.returns-else-self-end-clause-less
returns-else-self-end-clause-less g c = c.loop-left.invariant.less

pub returns-else-self-end-clause-read : goal.returns-else-self-end-clause-read
returns-else-self-end-clause-read g c = c.loop-left.invariant.read

pub returns-after-loop-left-clause-only : goal.returns-after-loop-left-clause-only
returns-after-loop-left-clause-only g c = c.loop-left.invariant.only

pub returns-after-loop-left-clause-some : goal.returns-after-loop-left-clause-some
returns-after-loop-left-clause-some g c = c.loop-left.invariant.some

pub returns-after-loop-left-clause-less : goal.returns-after-loop-left-clause-less
returns-after-loop-left-clause-less g c = c.loop-left.invariant.less

pub returns-after-loop-left-clause-read : goal.returns-after-loop-left-clause-read
returns-after-loop-left-clause-read g c = c.loop-left.invariant.read

pub returns-else-self-end-clause-last : goal.returns-else-self-end-clause-last
returns-else-self-end-clause-last g c = inl (omega (arith, c.if-self-end.false, c.words_of-end.ensures))

pub returns-after-loop-left-clause-last : goal.returns-after-loop-left-clause-last
returns-after-loop-left-clause-last g c = inr (omega (arith, c.loop-left-test.false, c.loop-left.invariant.some))

pub loop-left-smaller : goal.loop-left-smaller
loop-left-smaller g c =
    let more = c.loop-left-test.true in
    let least = c.min-many.ensures in
    let fewer = c.min-unread.ensures in
    let low = c.if-self-end.true in
    let end = c.words_of-end.ensures in
    let some = c.unread_from.ensures.some (c.loop-left.invariant.read.fits.unknown (omega (arith, low, end, cell_fits c.args.stamp.cell))) in
    omega (arith, more, least, fewer, low, some)

pub unread_from-requires : goal.unread_from-requires
unread_from-requires g c =
    let low = c.if-self-end.true in
    let end = c.words_of-end.ensures in
    let fit = cell_fits c.args.stamp.cell in
    omega (arith, low, end, fit)

pub unknown_from-self-requires : goal.unknown_from-self-requires
unknown_from-self-requires g c =
    let low = c.if-self-end.true in
    let end = c.words_of-end.ensures in
    let fit = cell_fits c.args.stamp.cell in
    let least = c.min-many.ensures in
    let fewer = c.min-unread.ensures in
    omega (arith, low, end, fit, least, fewer)

pub loop-left-init : goal.loop-left-init
loop-left-init g c =
    let z = g.S.Steps.sizes c.args.steps.now in
    let u = g.S.Steps.view c.args.steps.now in
    let x = c.args.stamp in
    let m = c.args.self.now in
    let reads = c.args.reads.now in
    record {
      only = g.met.S.Steps.only_same c.args.steps.now;
      sizes = refl;
      some = c.requires.some;
      less = omega arith;
      read = subst (λ (n : ℕ). HasReadOn z x n u m reads u m reads) (omega arith) (none_read_on z x u m reads c.requires.fits);
    }

pub read_run-requires : goal.read_run-requires
read_run-requires g c =
    let i = c.loop-left.invariant in
    let v = g.S.Steps.view c.loop-left.steps in
    let long = length-take c.min-many.result c.loop-left.words in
    let least = c.min-many.ensures in
    let fewer = c.min-unread.ensures in
    let low = c.if-self-end.true in
    let end = c.words_of-end.ensures in
    record {
      stamp = subst (λ (z : Sizes). HasStamp z v c.args.stamp) (sym i.sizes) i.read.fits.stamp;
      path = i.read.fits.path;
      free = i.read.fits.free;
      after = i.read.fits.after;
      inside = omega (arith, long, least, fewer, low, end);
    }
