use Rattle.std.proofs.Common.{refl, arith}
use Rattle.art_attempt.proofs.Tries.{later_first}
use Rattle.art_attempt.proofs.attempts.Attempt.new.Goals as goal
use Rattle.art_attempt.specs.Attempts.{settled_of}

pub returns-clause-fits : goal.returns-clause-fits
returns-clause-fits c z u r room still has =
    record {
      room = room;
      stage = record {
        early = u;
        base = still;
        later = later_first u;
        spent = λ limited. omega arith;
        has = has;
        fits = c.new.ensures.fits z r.row.key.items (settled_of c.args.job r.row) r.read_set u u (record { only = refl; free = still.free; pinned = still.pinned });
        going = c.new.ensures.going;
      };
    }
