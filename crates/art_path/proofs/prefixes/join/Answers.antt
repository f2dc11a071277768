use Rattle.std.proofs.Common.{◌∷◌, []}
use Rattle.std.proofs.lemmas.List.{append_assoc}
use Rattle.art_path.proofs.prefixes.join.Goals as goal

pub returns : goal.returns
returns c =
    let whole = rw c.unwrap.ensures at c.try_extend_from_slice.ensures.ok in
    cc (whole, append_assoc c.args.one.now (c.args.byte ∷ []) c.args.other.now)
