use Rattle.std.proofs.Common.{◌∙◌, sym, arith}
use Rattle.art_attempt.proofs.Left.{free_few}
use Rattle.art_change.proofs.Frames.{begun_so, begun_tries}
use Rattle.art_change.proofs.writes.Write.go_on.Goals as goal

pub returns-then-self-eq0-clause-left : goal.returns-then-self-eq0-clause-left
returns-then-self-eq0-clause-left c qs = let few = c.begin_exit.ensures.left qs in omega (arith, few)

pub returns-then-self-eq0-clause-fits : goal.returns-then-self-eq0-clause-fits
returns-then-self-eq0-clause-fits c z u opened v ps qs room frame begun has counted =
    let m = c.args.self.now in
    c.begin_exit.ensures.fits z u opened v v ps qs room frame begun (begun_so z opened m.restarts v begun c.args.room.now has, c.if-self-eq0.true) counted

pub returns-then-self-eq0-clause-apart : goal.returns-then-self-eq0-clause-apart
returns-then-self-eq0-clause-apart c is = let no = sym c.begin_exit.ensures.outcome ∙ is in cc

pub returns-clause-left : goal.returns-clause-left
returns-clause-left c qs =
    let few = free_few c.args.self.now.left c.new.result.stage c.new.ensures.free in
    omega (arith, few)

pub returns-clause-fits : goal.returns-clause-fits
returns-clause-fits c z u opened v ps qs room frame begun has counted = record {
  room = room;
  stage = (
    record {
      opened = opened;
      began = v;
      frame = frame;
      begun = begun;
      job = c.new.ensures.job;
      fits = c.new.ensures.fits z v c.args.room.now room (begun_tries z opened c.args.self.now.restarts v begun) has;
      going = c.new.ensures.going;
      counted = counted;
    },
    λ is. let some = c.if-self-eq0.false in omega (arith, some),
  );
}
