use Rattle.std.proofs.Common.{ap}
use Rattle.art_attempt.proofs.Tries.{later_first}
use Rattle.art_attempt.proofs.attempts.Attempt.begin.Goals as goal
use Rattle.art_plan.specs.Apply.{is_begun}
use Rattle.art_plan.proofs.Renewing.{plain_whole}

pub returns-clause-fits : goal.returns-clause-fits
returns-clause-fits c z u v t case room so may = record {
  room = room;
  stage = (
    record {
      position = t;
      chosen = case;
      early = v;
      base = so.still;
      later = later_first v;
      spent = so.spent;
      case = may.case;
      locks = may.locks;
      goes = may.goes;
      has = so.has;
      plain = may.planned.plain;
      leaf = may.leaf;
      deed = may.deed;
      fits = c.new.ensures.fits z v (plain_whole z v c.args.room.now.change may.planned) so.still.free;
    },
    c.new.ensures.going c.requires,
  );
}

pub returns-clause-free : goal.returns-clause-free
returns-clause-free c = ap is_begun (c.new.ensures.begun c.requires)
