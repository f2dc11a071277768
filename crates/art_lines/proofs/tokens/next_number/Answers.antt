use Rattle.std.proofs.Common.{refl}
use Rattle.std.proofs.lemmas.Option.{IfSome_then}
use Rattle.serde_json.specs.Data.{unsigned, number}
use Rattle.art_lines.proofs.TokenLaws.{begins-number}
use Rattle.art_lines.proofs.tokens.next_number.Goals as goal

pub returns : goal.returns
returns c = IfSome_then c.unsigned.result c.unsigned.ensures (λ whole said. (number (unsigned whole), begins-number 126 _ _ _ _ c.in_ok-text.ensures said, refl))
