use Rattle.std.proofs.Common.{◌∙◌, ◌++◌, ◌<◌, ◌^◌, ℕ, List, [], ◌∷◌, length, length-append, append_assoc, Some, ap, sym, subst, arith, rules}
use Rattle.std.proofs.lemmas.List.Elements.{All-pop}
use Rattle.art_load.proofs.threads.start_each.Goals as goal
use Rattle.art_load.specs.Commands.{load_commands}
use Rattle.art_load.specs.Threads.{AreOfTable, AreStarts, promises_of}
use Rattle.art_table.specs.Tables.{IsPassOf}
use Rattle.art_table.specs.declared.passes.Pass.{Pass}
use Rattle.art_load.specs.declared.commands.Plan.{Plan}

pub start-requires-clause-pass : goal.start-requires-clause-pass
start-requires-clause-pass g c =
    let p = c.in-Some.pass in
    (All-pop (IsPassOf c.args.table.now) c.loop-pass.passes.items c.pop.new.self.items (Some p) c.in-Some.ensures.items c.loop-pass.invariant.of).1

pub loop-pass-preserved-in-Ok-1 : goal.loop-pass-preserved-in-Ok-1
loop-pass-preserved-in-Ok-1 g c =
    let i = c.loop-pass.invariant in
    let rest = c.pop.new.self.items in
    let p = c.in-Some.pass in
    let h = c.in-Some-start.handle in
    let t = c.args.table.now in
    let plan = c.args.plan in
    let e = c.in-Some-start.ensures in
    let items = c.in-Some.ensures.items in
    let handles = c.in-Ok.ensures.items in
    let long = ap (length {A = Pass}) items ∙ length-append rest (p ∷ []) in
    let more = ap (λ (l : List _). length l) handles in
    let wide = c.in-Ok.ensures.capacity in
    let room = i.room in
    let few = i.few in
    let fits : plan.ops < 2 ^ 32 = search rules in
    record {
      of = (All-pop (IsPassOf c.args.table.now) c.loop-pass.passes.items rest (Some p) items i.of).0;
      room = omega (arith, room, long, more, wide);
      few = omega (arith, few, long, more);
      table = subst (λ (l : List _). AreOfTable t (promises_of l)) (sym handles)
          (record { table = e.table; few = subst (λ (x : Plan). x.ops < 2 ^ 32) (sym e.plan) fits }, i.table);
      starts = (
        p ∷ i.starts.0,
        sym (append_assoc rest (p ∷ []) i.starts.0) ∙ (ap (λ (l : List Pass). l ++ i.starts.0) (sym items) ∙ i.starts.1),
        λ all. subst (λ (l : List _). AreStarts t plan.seed plan.keys plan.ops (length rest) (p ∷ i.starts.0) (promises_of l)) (sym handles) (
          record {
            table = e.table;
            pass = e.pass;
            commands = ap (λ (x : Plan). load_commands x.seed x.keys h.promise.thread x.ops) e.plan
                ∙ ap (λ (n : ℕ). load_commands plan.seed plan.keys n plan.ops) (e.thread ∙ search rules);
          },
          subst (λ (n : ℕ). AreStarts t plan.seed plan.keys plan.ops n i.starts.0 (promises_of c.loop-pass.handles.items)) long (i.starts.2 all),
        ),
      );
    }

pub loop-pass-preserved : goal.loop-pass-preserved
loop-pass-preserved g c =
    let i = c.loop-pass.invariant in
    let rest = c.pop.new.self.items in
    let p = c.in-Some.pass in
    let items = c.in-Some.ensures.items in
    let long = ap (length {A = Pass}) items ∙ length-append rest (p ∷ []) in
    let room = i.room in
    let few = i.few in
    record {
      of = (All-pop (IsPassOf c.args.table.now) c.loop-pass.passes.items rest (Some p) items i.of).0;
      room = omega (arith, room, long);
      few = omega (arith, few, long);
      table = i.table;
      starts = (
        p ∷ i.starts.0,
        sym (append_assoc rest (p ∷ []) i.starts.0) ∙ (ap (λ (l : List Pass). l ++ i.starts.0) (sym items) ∙ i.starts.1),
        λ all. cc,
      );
    }
