use Rattle.std.proofs.Common.{subst, sym}
use Rattle.std.proofs.lemmas.Result.{IfErr-weaker, IfOk-weaker}
use Rattle.art_table_uses.proofs.attempts.given_up.Goals as goal
use Rattle.art_table_uses.specs.Clients.{IsGoing}

pub abandon-requires : goal.abandon-requires
abandon-requires c = (c.requires.job, c.requires.turns, c.requires.pass, c.requires.goes)

pub returns-clause-pass : goal.returns-clause-pass
returns-clause-pass c = IfOk-weaker c.abandon.result _ _ (λ q h. (h c.requires.job c.requires.turns c.requires.pass c.requires.goes).pass) c.abandon.ensures.given

pub returns-clause-back : goal.returns-clause-back
returns-clause-back c = IfErr-weaker c.abandon.result _ _ (λ a e. subst (IsGoing c.args.table.now) (sym e) c.requires) c.abandon.ensures.back
