-- The commands that a thread of a load makes.
use Rattle.std.specs.Prelude.{ℕ, zero, suc, ◌+◌, ◌*◌, ◌/◌, ◌%◌, ◌^◌, List, [], ◌∷◌, ◌++◌, nat_lt, nat_eq, if◌then◌else◌, pos}
use Rattle.art_model.specs.Rows.{Tuple}
use Rattle.art_model.specs.declared.commands.Command.{Command}
use Rattle.art_model.specs.declared.commands.Command.TheVariants.{Insert, Remove, Get}
use Rattle.art_model.specs.declared.values.Value.TheVariants.{Int}

-- the key of a thread's step: a sum that wraps at 2^64, modulo the number of keys
abbrev pub load_key : ℕ → ℕ → ℕ → ℕ → ℕ
load_key seed keys thread step = ((seed + 13 * thread + 7 * step) % 2 ^ 64) % keys

abbrev pub tuple_of_key : ℕ → Tuple
tuple_of_key key = record { items = Int (pos key) ∷ [] }

-- two of four rounds of three steps insert, one removes, one gets
abbrev pub command_of_round : ℕ → ℕ → Command
command_of_round round key =
    if nat_lt round 2 then Insert (tuple_of_key key) key
    else if nat_eq round 2 then Remove (tuple_of_key key)
    else Get (tuple_of_key key)

abbrev pub load_command : ℕ → ℕ → ℕ → ℕ → Command
load_command seed keys thread step = command_of_round (step / 3 % 4) (load_key seed keys thread step)

-- the first commands of a thread
abbrev pub load_commands : ℕ → ℕ → ℕ → ℕ → List Command
load_commands seed keys thread zero = []
load_commands seed keys thread (suc n) = load_commands seed keys thread n ++ load_command seed keys thread n ∷ []
