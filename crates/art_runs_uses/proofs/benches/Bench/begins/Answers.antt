use Rattle.std.proofs.Common.{◌≡◌, List, Some, rules, slice_get, subst, sym}
use Rattle.std.proofs.lemmas.Option.{slice_get_read}
use Rattle.std.specs.List.{insert, remove}
use Rattle.art_runs.specs.declared.ops.Op.{Op}
use Rattle.art_runs_uses.proofs.Ops.{replaced_bench}
use Rattle.art_runs_uses.proofs.benches.Bench.begins.Goals as goal
use Rattle.art_runs_uses.specs.Benches.{IsBench}

pub returns : goal.returns
returns g c =
    subst (λ (l : List Op). IsBench c.args.self.now.world l) (sym now)
    (replaced_bench c.args.self.now.world c.args.self.now.ops.items c.args.which c.remove-op.result c.in-Ok.caller.value c.begun-op.result c.requires at c.in-Ok.ensures.ended c.begun-op.ensures)
  where
    at : slice_get c.args.self.now.ops.items c.args.which ≡ Some c.remove-op.result
    at = slice_get_read c.args.self.now.ops.items c.args.self.now.ops.len c.args.which c.remove-op.result (search rules) (search rules) c.remove-op.ensures.value

    now : c.insert.new.self.items ≡ insert (remove c.args.self.now.ops.items c.args.which) c.args.which c.begun-op.result
    now = search rules
