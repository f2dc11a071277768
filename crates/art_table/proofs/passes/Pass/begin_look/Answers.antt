use Rattle.std.proofs.Common.{ap, refl, sym}
use Rattle.art_change.specs.Calls as calls
use Rattle.art_key.specs.declared.bounds.Bound.{Bound}
use Rattle.art_table.proofs.Begun.{begun}
use Rattle.art_table.proofs.passes.Pass.begin_look.Goals as goal
use Rattle.art_table.specs.Jobs.{key_at}
use Rattle.art_table.specs.declared.jobs.Job.TheVariants.{Look}

pub returns-clause-begun : goal.returns-clause-begun
returns-clause-begun c =
    begun c.args.table.now c.args.self.now c.args.turns (Look c.args.lo.now c.args.hi.now) c.deref_mut.result.now c.begin_look.new.self (calls.Look c.in-At.key c.args.hi.now) c.requires.pass
    c.deref_mut.ensures.value (ap (λ (b : Bound). calls.Look (key_at b) c.args.hi.now) (sym c.in-At.is)) refl c.requires.range
    c.begin_look.ensures.calling c.begin_look.ensures.apart
