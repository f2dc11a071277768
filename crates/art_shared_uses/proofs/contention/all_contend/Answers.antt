use Rattle.std.proofs.lemmas.Result.{IfOk-weaker}
use Rattle.art_shared_uses.proofs.contention.all_contend.Goals as goal
use Rattle.art_shared_uses.proofs.Many.{come_back, new_at}

pub map_vec-requires-after_bounds : goal.map_vec-requires-after_bounds
map_vec-requires-after_bounds g c κs within = new_at c.args.shared.now c.args.passes.items c.requires

pub returns : goal.returns
returns g c = come_back c.args.shared.now c.args.passes c.map_vec.result c.map_vec.ensures.len (IfOk-weaker c.map_vec.result _ _ (λ v h i a low. (h i a low).1.call.met) c.map_vec.ensures.each)
