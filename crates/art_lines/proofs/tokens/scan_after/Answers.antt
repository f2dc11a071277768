use Rattle.serde_json.specs.Data.{array, item, no_items}
use Rattle.art_lines.proofs.TokenLaws.{closes-more, closes-end}
use Rattle.art_lines.proofs.tokens.scan_after.Goals as goal

pub returns : goal.returns
returns c =
    let lo = c.in_ok-next_tuple.ensures in
    let hi = c.in_ok-next_tuple-2.ensures in
    let limit = c.in_ok-limit.ensures in
    let end = closes-end 126 _ _ c.in_ok-close.ensures in
    let all = closes-more 126 _ _ _ _ _ lo.1 (closes-more 126 _ _ _ _ _ hi.1 (closes-more 126 _ _ _ _ _ limit.1 end)) in
    (item (array lo.0) (item (array hi.0) (item limit.0 no_items)), all, rw (limit.2, lo.2, hi.2))
