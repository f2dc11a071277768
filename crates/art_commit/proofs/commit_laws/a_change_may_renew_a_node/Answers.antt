use Rattle.art_commit.proofs.Renewals.{may_renew, stays_named}
use Rattle.art_commit.proofs.commit_laws.a_change_may_renew_a_node.Goals as goal

pub returns-clause-renewal : goal.returns-clause-renewal
returns-clause-renewal c = may_renew

pub returns-clause-stays : goal.returns-clause-stays
returns-clause-stays c = stays_named
