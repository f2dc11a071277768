use Rattle.std.proofs.Common.{ap, refl}
use Rattle.art_change.proofs.Answered.{answered}
use Rattle.art_change.proofs.Counted.{write_counted}
use Rattle.art_change.proofs.Causes.{cause_so}
use Rattle.art_change.proofs.Ready.{ready_again}
use Rattle.art_change.proofs.Staged.{fits_at}
use Rattle.art_change.proofs.writes.Write.ended.Goals as goal
use Rattle.art_change.specs.Writes.{outcome_at}
use Rattle.art_change.specs.declared.writes.Stage.TheVariants.{Ended}

pub returns-in-Ended-clause-answered : goal.returns-in-Ended-clause-answered
returns-in-Ended-clause-answered c z u v ps qs r fits =
    let m = c.args.self.now in
    let o = c.in-Ended.outcome in
    answered z u ps m r qs v o (fits_at m r (Ended o) c.in-Ended.is z u ps qs v fits)

pub returns-in-Ended-clause-counted : goal.returns-in-Ended-clause-counted
returns-in-Ended-clause-counted c z u v ps qs r fits =
    let m = c.args.self.now in
    let o = c.in-Ended.outcome in
    write_counted z u ps m r qs v o (fits_at m r (Ended o) c.in-Ended.is z u ps qs v fits)

pub returns-in-Ended-clause-grounds : goal.returns-in-Ended-clause-grounds
returns-in-Ended-clause-grounds c z u v ps qs r fits =
    let m = c.args.self.now in
    let o = c.in-Ended.outcome in
    let done = fits_at m r (Ended o) c.in-Ended.is z u ps qs v fits in
    record {
      machine = m;
      job_is = refl;
      turns_are = refl;
      restarts_are = refl;
      outcome_is = ap outcome_at c.in-Ended.is;
      done = done;
      cause = cause_so z u ps m r qs v o done;
    }

pub returns-in-Ended-clause-ready : goal.returns-in-Ended-clause-ready
returns-in-Ended-clause-ready c z u v own ps qs s r ready fits =
    let m = c.args.self.now in
    ready_again z u own s ps m r qs v ready c.in-Ended.outcome (ap outcome_at c.in-Ended.is) fits
