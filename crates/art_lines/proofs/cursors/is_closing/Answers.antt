use Rattle.std.proofs.Common.{◌≡◌, [], arith}
use Rattle.std.proofs.lemmas.Grind.{common_steps}
use Rattle.art_lines.proofs.CursorLaws.{no_colon-close, no_colon-end}
use Rattle.art_lines.proofs.cursors.is_closing.Goals as goal

pub returns-in-Some-clause-no_key : goal.returns-in-Some-clause-no_key
returns-in-Some-clause-no_key c = λ _. rw c.in-Some.ensures (no_colon-close _)

pub returns-in-None-clause-no_key : goal.returns-in-None-clause-no_key
returns-in-None-clause-no_key c = λ ended.
    let none : c.args.bytes.now ≡ [] = grind (arith, common_steps) in
    rw none no_colon-end
