use Rattle.art_commit.proofs.AnyChange.{any_commits}
use Rattle.art_commit.proofs.ChangeLeaves.{add_commits, drop_commits, replace_commits}
use Rattle.art_commit.proofs.ChangeForks.{fork_commits}
use Rattle.art_commit.proofs.ChangeMerges.{merge_commits}
use Rattle.art_commit.proofs.ChangeWays.{grow_commits, shrink_commits, copy_commits}
use Rattle.art_commit.proofs.Members.{same_commits, claimed_nodes_come}
use Rattle.art_commit.proofs.commit_laws.changes_commit.Goals as goal

pub returns-clause-general : goal.returns-clause-general
returns-clause-general c = any_commits

pub returns-clause-members : goal.returns-clause-members
returns-clause-members c = same_commits

pub returns-clause-coming : goal.returns-clause-coming
returns-clause-coming c = claimed_nodes_come

pub returns-clause-add : goal.returns-clause-add
returns-clause-add c = add_commits

pub returns-clause-drop : goal.returns-clause-drop
returns-clause-drop c = drop_commits

pub returns-clause-replace : goal.returns-clause-replace
returns-clause-replace c = replace_commits

pub returns-clause-grow : goal.returns-clause-grow
returns-clause-grow c = grow_commits

pub returns-clause-shrink : goal.returns-clause-shrink
returns-clause-shrink c = shrink_commits

pub returns-clause-copy : goal.returns-clause-copy
returns-clause-copy c = copy_commits

pub returns-clause-fork : goal.returns-clause-fork
returns-clause-fork c = fork_commits

pub returns-clause-merge : goal.returns-clause-merge
returns-clause-merge c = merge_commits
