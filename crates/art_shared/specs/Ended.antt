-- What contracts see of a table that is closed.
use Rattle.std.specs.Prelude.{ℕ, List}
use Rattle.std.specs.Mem.Slots.{slots_items}
use Rattle.art_shared.specs.declared.ended.Ended.{Ended}
use Rattle.art_shared.specs.declared.law.Basis.{Basis}

-- all words, in their places
abbrev pub words_of : Ended → List ℕ
words_of e = slots_items e.closed.words

-- what the table was opened with
abbrev pub basis_left : Ended → Basis
basis_left e = e.basis
