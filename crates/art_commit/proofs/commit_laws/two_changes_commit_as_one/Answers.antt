use Rattle.art_commit.proofs.TwoChanges.{joined_commits, empty_look_stays}
use Rattle.art_commit.proofs.TwoParts.{two_parts_commit}
use Rattle.art_commit.proofs.commit_laws.two_changes_commit_as_one.Goals as goal

pub returns-clause-joined : goal.returns-clause-joined
returns-clause-joined c = joined_commits

pub returns-clause-nothing : goal.returns-clause-nothing
returns-clause-nothing c = empty_look_stays

pub returns-clause-parts : goal.returns-clause-parts
returns-clause-parts c = two_parts_commit
