use Rattle.std.proofs.Common.{◌<◌, ◌∙◌, arith, inl, inr, length, refl, sym}
use Rattle.std.proofs.lemmas.List.{set-get_or}
use Rattle.std.proofs.lemmas.Option.{slice_get-get_or}
use Rattle.art_world.proofs.TakenTurns.{fits_on, frees_under_nobody, one_made}
use Rattle.art_world.proofs.world.World.take_turn.Goals as goal

pub returns-then-ended-clause-is_turn : goal.returns-then-ended-clause-is_turn
returns-then-ended-clause-is_turn g c =
    let d = c.index-actors-pass.result in
    let inside : c.args.pass < length c.args.actors.now = omega (arith, c.if-pass-actors.false) in
    inl (inr (_, slice_get-get_or c.args.actors.now c.args.pass d inside, sym c.ended.ensures ∙ c.if-ended.true), refl, set-get_or c.args.actors.now c.args.pass d)

pub lend_to-requires-clause-fits : goal.lend_to-requires-clause-fits
lend_to-requires-clause-fits g c = c.requires.fits c.args.pass _ (slice_get-get_or c.args.actors.now c.args.pass c.index-actors-pass.result (omega (arith, c.if-pass-actors.false)))

pub returns-clause-is_turn : goal.returns-clause-is_turn
returns-clause-is_turn g c =
    let e = c.lend_to.ensures in
    let low = c.requires.passes in
    let inside : c.args.pass < length c.args.self.now.views = omega (arith, low, c.if-pass-actors.false) in
    let made = one_made c.args.pass c.args.self.now c.lend_to.new.self (g.T.Actor.has_ended c.lend_to.new.actor) inside e.only e.step in
    inr (record {
      before = _;
      now = c.lend_to.new.actor;
      named = slice_get-get_or c.args.actors.now c.args.pass c.index-actors-pass.result (omega (arith, c.if-pass-actors.false));
      goes_on = sym c.ended.ensures ∙ c.if-ended.false;
      fits_before = c.requires.fits c.args.pass _ (slice_get-get_or c.args.actors.now c.args.pass c.index-actors-pass.result (omega (arith, c.if-pass-actors.false)));
      fits_now = e.fits;
      turn = e.makes;
      actors = refl;
      only = e.only;
      step = made;
      frees = frees_under_nobody c.args.pass c.args.self.now c.lend_to.new.self (g.T.Actor.has_ended c.lend_to.new.actor) inside e.only made;
      sound_before = e.sound_before;
      sound = e.sound;
    })

pub returns-clause-fits : goal.returns-clause-fits
returns-clause-fits g c =
    let e = c.lend_to.ensures in
    fits_on g.T.Actor.fits c.args.self.now c.lend_to.new.self c.args.actors.now c.args.pass c.lend_to.new.actor (omega (arith, c.if-pass-actors.false)) e.only e.fits c.requires.fits
