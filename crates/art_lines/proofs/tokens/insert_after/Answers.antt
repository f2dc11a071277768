use Rattle.serde_json.specs.Data.{array, item, no_items}
use Rattle.art_lines.proofs.TokenLaws.{closes-more, closes-end}
use Rattle.art_lines.proofs.tokens.insert_after.Goals as goal

pub returns : goal.returns
returns c =
    let tuple = c.in_ok-next_tuple.ensures in
    let value = c.in_ok-value.ensures in
    let end = closes-end 126 _ _ c.in_ok-close.ensures in
    let both = closes-more 126 _ _ _ _ _ tuple.1 (closes-more 126 _ _ _ _ _ value.1 end) in
    (item (array tuple.0) (item value.0 no_items), both, rw (value.2, tuple.2))
