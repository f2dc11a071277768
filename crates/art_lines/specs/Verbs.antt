-- A command, from what it asks beside its tuples, and its tuples.
use Rattle.art_model.specs.declared.commands.Command.{Command}
use Rattle.art_model.specs.declared.commands.Command.TheVariants as command
use Rattle.art_model.specs.Rows.{Tuple}
use Rattle.art_lines.specs.declared.tokens.Verb.{Verb}
use Rattle.art_lines.specs.declared.tokens.Verb.TheVariants.{Insert, Remove, Get, Scan}

-- the command with this tuple, or with both where it asks for two
abbrev pub command_of : Verb → Tuple → Tuple → Command
command_of (Insert value) lo hi = command.Insert lo value
command_of Remove lo hi = command.Remove lo
command_of Get lo hi = command.Get lo
command_of (Scan limit) lo hi = command.Scan lo hi limit
