use Rattle.std.proofs.Common.{subst, sym, rules}
use Rattle.art_table.proofs.Answered.{ends}
use Rattle.art_table.proofs.attempts.Attempt.finish.Goals as goal
use Rattle.art_table.specs.Tables.{IsPassOf}
use Rattle.art_table.specs.declared.passes.Pass.{Pass}

pub run-result-requires : goal.run-result-requires
run-result-requires c = let r = c.requires in (r.0, r.1, r.1, r.2, r.3.goes_on c.in_default.is)

pub returns-clause-ends : goal.returns-clause-ends
returns-clause-ends c j turns p at =
    let way = at.goes_on c.in_default.is in
    ends c.args.table.now j turns p c.run-result.result c.run-result.new.self way.stands (c.run-result.ensures.ended j turns turns p way)

pub returns-clause-pass : goal.returns-clause-pass
returns-clause-pass c =
    let r = c.requires in
    (c.run-result.ensures.ended r.0 r.1 r.1 r.2 (r.3.goes_on c.in_default.is)).pass

pub returns-in-Some-clause-pass : goal.returns-in-Some-clause-pass
returns-in-Some-clause-pass c =
    let r = c.requires in
    subst (λ (q : Pass). IsPassOf c.args.table.now q) (sym (r.3.refused c.in-Some.fault c.in-Some.is)) r.3.began

pub returns-in-Some-clause-ends : goal.returns-in-Some-clause-ends
returns-in-Some-clause-ends c = search rules
