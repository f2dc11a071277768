-- Why the words give no settings.
use Rattle.std.specs.Prelude.{◌≡◌, [], ⊤, ℕ, List, Option, Some, None, codes}
use Rattle.clap.specs.Kinds.{Kinds, IsAmong}
use Rattle.clap.specs.Values.{kind_of}
use Rattle.clap.specs.declared.error.Error.{Error}
use Rattle.clap.specs.declared.error.kind.ErrorKind.{ErrorKind}
use Rattle.clap.specs.declared.error.kind.ErrorKind.TheVariants.{OutOfMemory}
use Rattle.art_tools.specs.declared.settings.SettingsFault.{SettingsFault}
use Rattle.art_tools.specs.declared.settings.SettingsFault.TheVariants.{Usage, Range, NoMemory}

-- the fault of a parse that fails by the error, whose kind is `kind`
abbrev pub fault_by : ErrorKind → Error → SettingsFault
fault_by OutOfMemory error = NoMemory
fault_by kind error = Usage error

abbrev pub fault_from : Error → SettingsFault
fault_from error = fault_by (kind_of error) error

-- Why there are no settings, where the words have a fault of one of the kinds, or ask for numbers that may not fit: the error has one of the
-- kinds; or the words are right, and a number is out of its range; or memory ran out.
abbrev pub Explains : Kinds → Type 0 → SettingsFault → Type 0
Explains kinds fits (Usage error) = IsAmong (kind_of error) kinds
Explains kinds fits Range = (kinds ≡ []) × ¬ fits
Explains kinds fits NoMemory = ⊤

-- what is printed of a fault; of one that clap tells, its text, of which no clause speaks
abbrev pub told_fault : SettingsFault → Option (List ℕ)
told_fault (Usage error) = None
told_fault Range = Some (codes "a number is out of its range")
told_fault NoMemory = Some (codes "no memory")
