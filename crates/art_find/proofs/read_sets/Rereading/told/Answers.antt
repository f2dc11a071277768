use Rattle.std.proofs.Common.{◌+◌, sym, subst, arith}
use Rattle.art_find.proofs.Keeping.{kept_noted, known_both, known_noted, note_stays, path_grows, read_grows, stamp_grows}
use Rattle.art_find.specs.Kept.{IsKept}
use Rattle.art_find.specs.Rereadings.{AreKnown}
use Rattle.art_step.specs.Views.{IsNotHeld}
use Rattle.art_step.specs.declared.views.Fact.TheVariants.{Word}
use Rattle.art_step.specs.declared.views.View.{View}
use Rattle.art_find.proofs.read_sets.Rereading.told.Goals as goal

pub returns-clause-fits : goal.returns-clause-fits
returns-clause-fits c = λ z v w x fits inside row.
    let place = c.args.self.now.place in
    let word = c.args.word in
    let reads = c.args.reads.now in
    let low = c.requires in
    let now = c.note.ensures in
    let after = fits.after in
    let on = c.unknown_from-self.ensures.from in
    record {
      free = subst (λ (t : View). IsNotHeld t.held x.cell) (sym row.is) fits.free;
      stamp = stamp_grows z v w x (read_grows v w x (Word place word) row.is) fits.stamp;
      path = path_grows v w x (read_grows v w x (Word place word) row.is) fits.path;
      kept = subst (IsKept z w x) (sym now) (kept_noted reads fits.kept.room place word low z v w x fits.after inside row fits.kept);
      after = omega (arith, after, on);
      known = known_both c.note.new.self 1 (place + 1) c.unknown_from-self.result (subst (λ (r : _). AreKnown r 1 (place + 1)) (sym now) (known_noted reads fits.kept.room place word low fits.known)) c.unknown_from-self.ensures.known;
      unknown = c.unknown_from-self.ensures.unknown;
    }

pub returns-clause-stays : goal.returns-clause-stays
returns-clause-stays c = note_stays c.args.reads.now c.note.new.self c.args.self.now.place c.args.word c.note.ensures
