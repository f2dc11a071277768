-- The first pass of a world writes, and looks up.
use Rattle.std.specs.Prelude.{◌<◌, length}
use Rattle.art_runs.specs.ArtChange.Calls.{IsCaller}
use Rattle.art_runs.specs.ArtChange.declared.callers.Caller.{Caller}
use Rattle.art_step.specs.WordRows.{view_at}
use Rattle.art_world.specs.Contents.{Contents}

-- the caller is that of the first pass, which may call
pub record WritesFirst (w : Contents) (c : Caller) : Type 0 where
  pub some : 0 < length w.views
  pub may : IsCaller w.sizes (view_at w.views 0) c
