-- Marks that are sent from thread to thread.
use Rattle.std.specs.Prelude.{◌≡◌, []}
use Rattle.atomic_table.specs.Seated.{TableId}
use Rattle.art_shared.specs.Tables.{basis_in}
use Rattle.art_shared.specs.declared.law.Basis.{Basis}
use Rattle.art_table.specs.declared.marked.Mark.{Mark}
use Rattle.art_table.specs.declared.tables.Table.{Table}

-- the table of a mark, and what it was opened with
abbrev pub table_of_mark : Mark → TableId
table_of_mark k = k.mark.seat.table_id

abbrev pub basis_of_mark : Mark → Basis
basis_of_mark k = k.mark.seat.me.0.basis

-- the table has this name, and was opened with this
pub record IsNamed (t : Table) (table : TableId) (basis : Basis) : Type 0 where
  pub table_is : t.shared.table.shared.table_id ≡ table
  pub basis_is : basis_in t.shared ≡ basis

-- the name of no table
abbrev pub no_table : TableId
no_table = record { words = 0; slots = 0; views_name = 0; atom = 0; block = 0; offset = 0; slot_names = [] }
