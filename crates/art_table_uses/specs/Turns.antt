-- Four attempts at once.
use Rattle.art_table.specs.declared.attempts.Attempt.{Attempt}
use Rattle.art_table.specs.declared.tables.Table.{Table}
use Rattle.art_table_uses.specs.Clients.{IsGoing}

-- each of the four is an attempt of the table
pub record AreGoing (t : Table) (zero one two three : Attempt) : Type 0 where
  pub zero_goes : IsGoing t zero
  pub one_goes : IsGoing t one
  pub two_goes : IsGoing t two
  pub three_goes : IsGoing t three
