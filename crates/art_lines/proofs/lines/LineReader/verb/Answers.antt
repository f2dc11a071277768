use Rattle.std.proofs.Common.{◌≡◌, ◌≤◌, ℕ, List, length, Some, Ok, IsUtf8, ◌∙◌, arith}
use Rattle.art_model.specs.declared.commands.Command.{Command}
use Rattle.serde_json.specs.Data.{Data}
use Rattle.serde_json.specs.Read.{read}
use Rattle.art_lines.specs.Lines.{command_said, line_says}
use Rattle.art_lines.proofs.LineLaws.{line_says-read}
use Rattle.art_lines.proofs.lines.LineReader.verb.Goals as goal

says : (line : List ℕ) (command : Command) → length line ≤ 4096 → IsUtf8 line → (d : Data) × (read line ≡ Some d) × (command_said d ≡ Ok command) → line_says line ≡ Ok command
says line command short text said = line_says-read line said.0 short text said.1 ∙ said.2

pub returns-in-Some-clause-said : goal.returns-in-Some-clause-said
returns-in-Some-clause-said c = says c.args.line.now _ (omega arith) c.in-Some.ensures.text c.in-Some.ensures.said
