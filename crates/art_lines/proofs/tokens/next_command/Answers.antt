use Rattle.std.proofs.Common.{◌≡◌, ◌∷◌, arith}
use Rattle.std.proofs.lemmas.Option.{IfSome_then}
use Rattle.json.specs.Token.{Token}
use Rattle.serde_json.specs.Data.{array, string, item}
use Rattle.art_lines.specs.Cursors.{tokens_left}
use Rattle.art_lines.proofs.TokenLaws.{begins-string, closes-more, begins-array}
use Rattle.art_lines.proofs.tokens.next_command.Goals as goal

pub returns : goal.returns
returns c =
    let first : tokens_left c.args.cursor.now ≡ Token.begin_array ∷ tokens_left c.take_begin_array.new.self = grind arith in
    let word = begins-string 126 _ _ _ c.in_ok-word.ensures in
    IfSome_then c.command_after.result c.command_after.ensures
    (λ command said. (array (item (string c.in_ok-word.word.now) said.0), begins-array 126 _ _ _ _ first (closes-more 126 _ _ _ _ _ word said.1), said.2))
