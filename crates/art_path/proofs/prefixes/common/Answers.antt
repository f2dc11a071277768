use Rattle.std.proofs.Common.{◌≡◌, length, rules, tests, ◌∙◌, take}
use Rattle.std.specs.List.{prefix_len, zip}
use Rattle.std.proofs.lemmas.List.Folds.{length-prefix_len}
use Rattle.std.proofs.lemmas.Iterator.{YieldsList-from_slice, YieldsList-from_zip}
use Rattle.std.proofs.lemmas.Iterator.Consumers.{YieldsList-at, count_from_yields_List}
use Rattle.std.proofs.lemmas.Iterator.Search.{YieldsList-from_take_while}
use Rattle.art_path.proofs.CommonFront.{is_one, pairs_common}
use Rattle.art_path.proofs.prefixes.common.Goals as goal

pub returns : goal.returns
returns c =
    let one = c.args.one.now in
    let other = c.args.other.now in
    let pairs = zip one other in
    let count : c.count.result ≡ length (take (prefix_len is_one pairs) pairs) =
    count_from_yields_List c.take_while.result c.count.result c.count.ensures.ran
    (YieldsList-from_take_while _ is_one
    (YieldsList-at c.take_while.ensures.source (YieldsList-from_zip (YieldsList-from_slice one (cc)) (YieldsList-from_slice other (cc)))) c.take_while.ensures.closure c.take_while.ensures.done
    (λ x b q k. search (rules, tests))) in
    pairs_common one other c.count.result (count ∙ length-prefix_len is_one pairs)
