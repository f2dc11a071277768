-- What waits is to go back.
use Rattle.std.proofs.Common.{⊎_elim, refl, arith, ◌<◌, ◌≤◌}
use Rattle.std.proofs.lemmas.Bool.{cases_lt}
use Rattle.std.specs.Prelude.{[], length}
use Rattle.art_epoch.specs.Limbo.{places_of}
use Rattle.art_step.specs.declared.actions.Action.TheVariants.{ReadEpoch}
use Rattle.art_epoch.proofs.Blocking.{none_stays}
use Rattle.art_epoch.proofs.Opens.{noting_left}
use Rattle.art_epoch.proofs.enter.Enter.new.Goals as goal

pub returns-clause-fits : goal.returns-clause-fits
returns-clause-fits c z u may =
    let ps = places_of c.args.limbo.now in
    let room = c.room.ensures in
    record {
      may = may.may;
      some = ⊎_elim
          (λ (some : 0 < length ps). some)
          (λ (none : length ps ≤ 0). absurd (c.if-room-eq-PLACES.false (omega (arith, room, none))))
          (cases_lt 0 (length ps));
      fits = c.new-2.ensures.fits z u ps may.own_is may.inside may.passes_are may.may.idle (omega (arith, room)) may.limbo;
      going = (ReadEpoch, c.new-2.ensures.asks ps);
      blocked = record { looks = []; found = refl; blocker = λ label is. absurd (none_stays c.new-2.result.stage ps label (c.new-2.ensures.asks []) is) };
    }

pub returns-clause-left : goal.returns-clause-left
returns-clause-left c z u may =
    let ps = places_of c.args.limbo.now in
    let room = c.room.ensures in
    let fits = c.new-2.ensures.fits z u ps may.own_is may.inside may.passes_are may.may.idle (omega (arith, room)) may.limbo in
    let few = noting_left c.new-2.result.passes c.new-2.result.stage ps (c.new-2.ensures.asks []) in
    let same = fits.passes in
    let all = may.passes_are in
    omega (arith, few, same, all)
