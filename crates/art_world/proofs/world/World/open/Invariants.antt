-- There are as many newcomers as passes.
use Rattle.art_world.proofs.world.World.open.Given as goal

abbrev pub ghosts-first_views : goal.ghosts-first_views
ghosts-first_views a = record { passes = a.passes }
