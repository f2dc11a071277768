use Rattle.art_shared.specs.Tables.{basis_in}
use Rattle.art_table_uses.proofs.letters.a_mark_goes_over_a_channel.Given as goal

-- the table that was just opened
abbrev pub ghosts-over_a_channel : goal.ghosts-over_a_channel
ghosts-over_a_channel g a = record { table = a.table.now.shared.table.shared.table_id; basis = basis_in a.table.now.shared }
