use Rattle.std.proofs.Common.{◌≡◌, ◌≢◌, Result, Ok, Err, MatchResult, sym, ◌∙◌, arith}
use Rattle.art_model.specs.declared.commands.Command.{Command}
use Rattle.serde_json.specs.Errors.{IsMemory}
use Rattle.art_lines.specs.declared.lines.LineFault.{LineFault}
use Rattle.art_lines.specs.declared.lines.LineFault.TheVariants.{NoMemory}
use Rattle.art_lines.proofs.LineLaws.{line_says-read, line_says-refused, read_some}
use Rattle.art_lines.proofs.lines.command_in_values.Goals as goal

said_by : (says r : Result Command LineFault) → says ≡ r → MatchResult r (λ command. says ≡ Ok command)
    (λ fault. fault ≢ NoMemory → says ≡ Err fault)
said_by says (Ok command) e = e
said_by says (Err fault) e = λ _. e

pub returns-in-Ok-clause-said : goal.returns-in-Ok-clause-said
returns-in-Ok-clause-said c =
    let read = c.in-Ok.ensures.ok in
    said_by _ _ (line_says-read c.args.line.now _ (omega arith) read.0 read.1 ∙ sym c.command_in.ensures)

pub returns-in-Ok-clause-memory : goal.returns-in-Ok-clause-memory
returns-in-Ok-clause-memory c = λ _. read_some c.args.line.now _ c.in-Ok.ensures.ok.1

pub returns-in-Err-2-clause-said : goal.returns-in-Err-2-clause-said
returns-in-Err-2-clause-said c =
    let other : ¬ IsMemory c.in-Err-2.field-0 = grind arith in
    λ _. line_says-refused c.args.line.now (omega arith) (c.in-Err-2.ensures.err other)
