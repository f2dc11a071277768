use Rattle.art_step.proofs.StepCommits.{commit_law}
use Rattle.art_step.proofs.step_laws.committing_is_sound.Goals as goal

pub returns : goal.returns
returns c = commit_law
