use Rattle.std.proofs.Common.{◌≡◌, ◌++◌, codes, decimal, sym, arith}
use Rattle.art_key.proofs.Names.{text_found}
use Rattle.art_key.proofs.columns.text_kind.Goals as goal

pub returns-clause-kind : goal.returns-clause-kind
returns-clause-kind c =
    let prefix = c.in_ok-strip_prefix.ensures.cases in
    let found = c.in_ok-longest.ensures in
    let spelled : c.args.name.now ≡ codes "text" ++ decimal c.in_ok-longest.longest = cc in
    sym (text_found c.args.name.now c.in_ok-longest.longest 1 24 spelled found.0 (omega arith) (omega arith))
