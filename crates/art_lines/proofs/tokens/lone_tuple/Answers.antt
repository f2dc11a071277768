use Rattle.std.proofs.lemmas.Option.{IfSome_then}
use Rattle.serde_json.specs.Data.{array, item, no_items}
use Rattle.art_lines.proofs.TokenLaws.{closes-more, closes-end}
use Rattle.art_lines.proofs.tokens.lone_tuple.Goals as goal

pub returns : goal.returns
returns c =
    let tuple = c.in_ok-next_tuple.ensures in
    IfSome_then c.close.result c.close.ensures
    (λ _ closed. (item (array tuple.0) no_items, closes-more 126 _ _ _ _ _ tuple.1 (closes-end 126 _ _ closed), rw tuple.2))
