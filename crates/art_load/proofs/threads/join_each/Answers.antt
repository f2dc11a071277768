use Rattle.std.proofs.Common.{◌≡◌, ◌∙◌, List, [], ◌∷◌, length, length-append, ap, sym, subst, arith, rules, inl, inr}
use Rattle.std.proofs.lemmas.List.Elements.{All-cons, All-same}
use Rattle.art_load.proofs.Members.{no_items, of_table_last, promises_last}
use Rattle.art_load.proofs.Starts.{IsJoining, joined, joins}
use Rattle.art_load.proofs.Totals.{added_total, as_many}
use Rattle.art_load.proofs.threads.join_each.Goals as goal
use Rattle.art_load.specs.Counts.{total_of}
use Rattle.art_table.specs.Tables.{AreOf, IsPassOf}
use Rattle.art_load.specs.Threads.{AreOfTable, promises_of}
use Rattle.art_load.specs.declared.counts.Counts.{Counts}
use Rattle.art_table.specs.declared.passes.Pass.{Pass}
use Rattle.art_table.specs.declared.tables.Table.{Table}
use Rattle.art_load.specs.declared.threads.LoadPromise.{LoadPromise}

pub add-requires : goal.add-requires
add-requires g c =
    let i = c.loop-handle.invariant in
    let rest = c.pop.new.self.items in
    let h = c.in-Some.handle in
    let items = c.in-Some.ensures.items in
    let promises = ap promises_of items ∙ promises_last rest h in
    let t = c.requires.counted.0 in
    let last = (of_table_last t (promises_of rest) h.promise (subst (AreOfTable t) promises (i.of t c.requires.counted.1).0)).1 in
    let long = ap (λ (l : List _). length l) items ∙ length-append rest (h ∷ []) in
    let some = c.join-loaded.ensures.total in
    let many = as_many h.promise.plan.seed h.promise.plan.keys h.promise.thread h.promise.plan.ops in
    let few = last.few in
    let so_far = i.few in
    let all = c.requires.few in
    omega (arith, some, many, few, so_far, all, long)

pub loop-handle-preserved : goal.loop-handle-preserved
loop-handle-preserved g c =
    let i = c.loop-handle.invariant in
    let rest = c.pop.new.self.items in
    let h = c.in-Some.handle in
    let q = c.join-loaded.result.pass in
    let items = c.in-Some.ensures.items in
    let promises = ap promises_of items ∙ promises_last rest h in
    let passes = c.in-Ok.ensures.items in
    let long = ap (λ (l : List _). length l) items ∙ length-append rest (h ∷ []) in
    let more = ap (length {A = Pass}) passes in
    let wide = c.in-Ok.ensures.capacity in
    let room = i.room in
    let t' = c.requires.counted.0 in
    let few = (of_table_last t' (promises_of rest) h.promise (subst (AreOfTable t') promises (i.of t' c.requires.counted.1).0)).1.few in
    let some = c.join-loaded.ensures.total in
    let many = as_many h.promise.plan.seed h.promise.plan.keys h.promise.thread h.promise.plan.ops in
    let so_far = i.few in
    let counts = c.loop-handle.counts in
    let totals = ap total_of c.add.ensures ∙ added_total counts c.join-loaded.result.counts in
    record {
      room = omega (arith, room, long, more, wide);
      few = omega (arith, so_far, long, totals, some, many, few);
      of = λ t a.
          let b = i.of t a in
          let last = of_table_last t (promises_of rest) h.promise (subst (AreOfTable t) promises b.0) in (
            last.0,
            All-same (IsPassOf t) _ (q ∷ c.loop-handle.passes.items) passes (All-cons (IsPassOf t) q c.loop-handle.passes.items
                (subst (λ (x : Table). IsPassOf x q) last.1.table c.join-loaded.ensures.pass) b.1),
          );
      loads = λ t seed keys ops ps a.
          subst (λ (l : List Pass). IsJoining t seed keys ops ps (promises_of rest) c.add.new.self l) (sym passes)
          (subst (λ (x : Counts). IsJoining t seed keys ops ps (promises_of rest) x (q ∷ c.loop-handle.passes.items)) (sym c.add.ensures)
          (joins t seed keys ops ps (promises_of rest) h.promise counts c.join-loaded.result.counts c.loop-handle.passes.items q
          (subst (λ (l : List LoadPromise). IsJoining t seed keys ops ps l counts c.loop-handle.passes.items) promises
          (i.loads t seed keys ops ps a))
          c.join-loaded.ensures));
    }

pub returns-clause-of : goal.returns-clause-of
returns-clause-of g c t a = (c.loop-handle.invariant.of t a).1

pub returns-clause-loads : goal.returns-clause-loads
returns-clause-loads g c t seed keys ops ps a =
    let none : c.loop-handle.handles.items ≡ [] = no_items c.loop-handle.handles.items (search rules) in
    joined t seed keys ops ps c.loop-handle.counts c.loop-handle.passes.items
    (subst (λ (l : List _). IsJoining t seed keys ops ps (promises_of l) c.loop-handle.counts c.loop-handle.passes.items) none
    (c.loop-handle.invariant.loads t seed keys ops ps a))
