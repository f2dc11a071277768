use Rattle.std.proofs.Common.{◌∙◌, inl, inr, sym, arith}
use Rattle.art_change.proofs.Frames.{anew_ends, anew_left, begun_again, none_anew, outcome_ends}
use Rattle.art_change.proofs.Overlaps.{outcome_overlaps}
use Rattle.std.proofs.lemmas.Option.{same_Some}
use Rattle.art_change.specs.declared.writes.WriteOutcome.{WriteOutcome as Outcome}
use Rattle.art_change.specs.declared.writes.WriteOutcome.TheVariants.{Overlaps}
use Rattle.art_change.proofs.writes.Write.conclude.Goals as goal

pub returns-in-Some-clause-fits : goal.returns-in-Some-clause-fits
returns-in-Some-clause-fits c z u opened began v ps qs room frame begun ends counted =
    let m = c.args.self.now in
    c.begin_exit.ensures.fits z u opened began v ps qs room frame begun
    (outcome_ends z began m.job c.args.room.now m.left v c.args.ending c.in-Some.outcome ends (sym c.outcome_of.ensures ∙ c.in-Some.is)) counted

pub returns-in-None-clause-fits : goal.returns-in-None-clause-fits
returns-in-None-clause-fits c z u opened began v ps qs room frame begun ends counted =
    let m = c.args.self.now in
    let r = c.args.room.now in
    let anew = anew_ends z began m.job r m.left v c.args.ending ends (sym c.outcome_of.ensures ∙ c.in-None.is) in
    let more = c.saturating_add-self.ensures in
    c.go_on.ensures.fits z u opened v ps qs room frame
    (begun_again z opened began v m.restarts c.saturating_add-self.result r begun anew.0 anew.1 (omega (arith, more))) anew.0.has counted

pub returns-in-Some-clause-left : goal.returns-in-Some-clause-left
returns-in-Some-clause-left c qs = let few = c.begin_exit.ensures.left qs in omega (arith, few)

pub returns-in-None-clause-left : goal.returns-in-None-clause-left
returns-in-None-clause-left c qs =
    let few = c.go_on.ensures.left qs in
    let same = anew_left c.args.self.now.left c.args.ending (sym c.outcome_of.ensures ∙ c.in-None.is) in
    omega (arith, few, same)

pub returns-in-Some-clause-restarts : goal.returns-in-Some-clause-restarts
returns-in-Some-clause-restarts c = inl c.begin_exit.ensures.restarts

pub returns-in-None-clause-restarts : goal.returns-in-None-clause-restarts
returns-in-None-clause-restarts c = inr (none_anew c.args.self.now.left c.args.ending (sym c.outcome_of.ensures ∙ c.in-None.is))

pub returns-in-Some-clause-overlaps : goal.returns-in-Some-clause-overlaps
returns-in-Some-clause-overlaps c is =
    outcome_overlaps c.args.self.now.left c.args.ending c.in-Some.outcome (sym c.outcome_of.ensures ∙ c.in-Some.is)
    (same_Some {A = Outcome} c.in-Some.outcome Overlaps (sym c.begin_exit.ensures.outcome ∙ is))

pub returns-in-None-clause-overlaps : goal.returns-in-None-clause-overlaps
returns-in-None-clause-overlaps c is = absurd (c.go_on.ensures.apart is)
