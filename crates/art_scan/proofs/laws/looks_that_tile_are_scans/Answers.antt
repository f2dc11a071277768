use Rattle.art_scan.proofs.Tiled.{looks_that_tile_are_scans}
use Rattle.art_scan.proofs.laws.looks_that_tile_are_scans.Goals as goal

pub returns : goal.returns
returns c = looks_that_tile_are_scans
