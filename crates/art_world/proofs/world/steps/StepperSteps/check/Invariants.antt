-- The version word that is found, and what it shows.
use Rattle.std.specs.Option.{option_map}
use Rattle.art_world.proofs.Moving.{AtCheck, ShowsCheck}
use Rattle.art_world.proofs.world.steps.StepperSteps.check.Given as goal

abbrev pub ghosts-find : goal.ghosts-find
ghosts-find a = record { shown = ShowsCheck a.self.now a.pass a._about.now.0 (option_map (λ d. d.now) a._about.now.1) a._about.now.2; happens = AtCheck a.self.now a.pass a._about.now.0 a._about.now.2 }
