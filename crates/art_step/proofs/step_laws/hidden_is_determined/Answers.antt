use Rattle.art_step.proofs.Determined.{history_grows, history_law, one_logical}
use Rattle.art_step.proofs.step_laws.hidden_is_determined.Goals as goal

pub returns-clause-history : goal.returns-clause-history
returns-clause-history c = history_law

pub returns-clause-grows : goal.returns-clause-grows
returns-clause-grows c = history_grows

pub returns-clause-logical : goal.returns-clause-logical
returns-clause-logical c = one_logical
