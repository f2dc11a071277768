use Rattle.art_commit.proofs.SaysAnother.{alike_commits}
use Rattle.art_commit.proofs.commit_laws.a_commit_serves_another_deed.Goals as goal

pub returns : goal.returns
returns c = alike_commits
