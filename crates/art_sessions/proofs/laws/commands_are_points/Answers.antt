use Rattle.art_sessions.proofs.Points.{commands_are_points}
use Rattle.art_sessions.proofs.laws.commands_are_points.Goals as goal

pub returns : goal.returns
returns c = commands_are_points
