use Rattle.art_scan.proofs.Alone.{looks_at_one_state_are_answers}
use Rattle.art_scan.proofs.laws.looks_at_one_state_are_answers.Goals as goal

pub returns : goal.returns
returns c = looks_at_one_state_are_answers
