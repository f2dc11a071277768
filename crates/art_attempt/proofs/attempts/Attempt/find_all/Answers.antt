-- The steps are those of the finding.
use Rattle.std.proofs.Common.{Bool, List, ℕ, sym, subst}
use Rattle.art_attempt.proofs.Heard.{comes_back, descends_so}
use Rattle.art_attempt.proofs.Stages.{is_finding}
use Rattle.art_attempt.specs.Attempts.{settled_of}
use Rattle.art_find.specs.Findings.{CameBack, Descends, FindingFits, WentOn}
use Rattle.art_attempt.proofs.attempts.Attempt.find_all.Goals as goal

pub descend-on-requires-clause-fits : goal.descend-on-requires-clause-fits
descend-on-requires-clause-fits g c =
    let z = g.S.Steps.sizes c.args.steps.now in
    let v = g.S.Steps.view c.args.steps.now in
    let m = c.args.self.now in
    let f = c.in-Finding.finding in
    let r = c.args.room.now in
    let q = c.requires.fits in
    let seeks = is_finding z q.0 m r v f c.in-Finding.is q.1 in
    (settled_of m.job r.row, seeks.early, subst (λ (k : List ℕ). FindingFits z k (settled_of m.job r.row) f r.read_set seeks.early v) (sym c.as_slice-key.ensures.value) seeks.fits)

pub returns-then-not-on-clause-fits : goal.returns-then-not-on-clause-fits
returns-then-not-on-clause-fits g c = λ u fits.
    let z = g.S.Steps.sizes c.args.steps.now in
    let v = g.S.Steps.view c.args.steps.now in
    let m = c.args.self.now in
    let f = c.in-Finding.finding in
    let r = c.args.room.now in
    let n = c.descend-on.new in
    let w = g.S.Steps.view n.steps in
    let back = subst (λ (k : List ℕ). CameBack z k f r.read_set v n.self n.read_set w) c.as_slice-key.ensures.value
    (subst (λ (b : Bool). Descends z c.as_slice-key.result.now b f r.read_set v n.self n.read_set w) c.if-not-on.true c.descend-on.ensures.descends) in
    comes_back z u m f r v n.self n.read_set w c.in-Finding.is fits back

pub returns-else-not-on-clause-fits : goal.returns-else-not-on-clause-fits
returns-else-not-on-clause-fits g c = λ u fits.
    let z = g.S.Steps.sizes c.args.steps.now in
    let v = g.S.Steps.view c.args.steps.now in
    let m = c.args.self.now in
    let f = c.in-Finding.finding in
    let r = c.args.room.now in
    let n = c.descend-on.new in
    let w = g.S.Steps.view n.steps in
    let on = subst (λ (k : List ℕ). WentOn z k f r.read_set v n.self n.read_set w) c.as_slice-key.ensures.value
    (subst (λ (b : Bool). Descends z c.as_slice-key.result.now b f r.read_set v n.self n.read_set w) c.if-not-on.false c.descend-on.ensures.descends) in
    descends_so z u m f r v n.self n.read_set w c.in-Finding.is fits on
