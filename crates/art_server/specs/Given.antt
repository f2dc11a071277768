-- What a read gave.
use Rattle.std.specs.Prelude.{ℕ, Option, Some, None, Result, Ok, Err}

-- so many bytes, or nothing where it failed
abbrev pub given : {E : Type 0} → Result ℕ E → Option ℕ
given (Ok count) = Some count
given (Err error) = None
