use Rattle.std.proofs.Common.{arith}
use Rattle.std.proofs.lemmas.Grind.{common_steps}
use Rattle.art_key.proofs.Widths.{total_width-le}
use Rattle.art_key.proofs.schemas.widest_key.Goals as goal

pub overflow_add-bytes : goal.overflow_add-bytes
overflow_add-bytes c =
    let most = total_width-le c.args.columns.now c.requires.known in
    grind (arith, common_steps)
