-- An end that speaks of no place may be said of any.
use Rattle.std.proofs.Common.{None}
use Rattle.art_cell.specs.declared.cells.Cell.TheVariants.{Anchor}
use Rattle.art_find.specs.declared.findings.Position.{Position}
use Rattle.art_find.specs.declared.descents.Verdict.TheVariants.{Empty}

abbrev pub anywhere : Position
anywhere = record { stamp = record { cell = Anchor; version = 0; first = 0 }; depth = 0; above = None; verdict = Empty }
