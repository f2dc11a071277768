-- What a clause reads of a counted reader.
use Rattle.std.specs.Prelude.{ℕ, List, Option}
use Rattle.art_server.specs.declared.counted.Counted.{Counted}

-- the reader itself
abbrev pub reader_of : {R : Type 0} → Counted R → R
reader_of counted = counted.reader

-- what each read gave, in order: so many bytes, or nothing where it failed
abbrev pub reads_of : {R : Type 0} → Counted R → List (Option ℕ)
reads_of counted = counted.reads.value
