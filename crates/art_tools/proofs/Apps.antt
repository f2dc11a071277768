-- What the shape of a command says of it.
use Rattle.std.proofs.Common.{◌≡◌, true, false}
use Rattle.std.proofs.lemmas.Bool.{not-true}
use Rattle.clap.proofs.WalkLemmas.{both}
use Rattle.clap.specs.Simple.{app_of}
use Rattle.clap.specs.declared.builder.command.Command.{Command}
use Rattle.clap.specs.declared.builder.command.Command.TheViews.{out-Command}

-- a plain command has no global argument
pub has_no_globals : (c : Command) → (app_of c).top.is_plain ≡ true → (out-Command c).has_globals ≡ false
has_no_globals c plain = not-true _ (both _ _ (both _ _ (both _ _ plain).1).1).0
