-- The seat that is left has all views, and the words are those of the table at its end.
use Rattle.std.proofs.Common.{rules, ◌≡◌, ◌++◌, List, [], ◌∷◌, length, Some, sym, ap, ◌∙◌, subst, arith, append-nil, length-append}
use Rattle.std.proofs.lemmas.List.{map-append}
use Rattle.std.specs.List.{slice_get}
use Rattle.std.specs.Mem.Slots.{slots_items}
use Rattle.art_step.specs.declared.views.View.{View}
use Rattle.art_step.specs.Views.{Member}
use Rattle.art_shared.specs.declared.law.Basis.{Basis}
use Rattle.art_shared.specs.declared.pass.Pass.{Pass}
use Rattle.art_shared.specs.Passes.{view_in}
use Rattle.art_shared.specs.Rule.{Kept, Words}
use Rattle.art_shared.proofs.Closed.{closes, get_before, get_end, joins_last, no_items, pass_views}
use Rattle.art_shared.proofs.Moving.{enters, joins}
use Rattle.art_shared.proofs.Turning.{one_of}
use Rattle.art_shared.proofs.shared.Shared.close.Goals as goal

pub load_new_seat-seat-requires : goal.load_new_seat-seat-requires
load_new_seat-seat-requires c = (rw c.args.self.wide (omega arith), enters c.args.self.table.shared.key c.args.self.table.shared.table_id.slots)

pub join_seat-requires : goal.join_seat-requires
join_seat-requires c =
    let i = c.loop-pass.invariant in
    let items : c.loop-pass.passes.items ≡ c.pop.new.self.items ++ c.in-Some.pass ∷ [] = c.in-Some.ensures.items in
    let o = i.others (length c.pop.new.self.items) c.in-Some.pass (subst (λ l. slice_get l (length c.pop.new.self.items) ≡ Some c.in-Some.pass) (sym items) (get_end c.pop.new.self.items c.in-Some.pass)) in
    (i.table, o.table, no_items c.in-Some.pass.seat.me.1 c.in-Some.pass.empty, rw c.args.self.wide (omega arith), joins c.args.self.table.shared.key c.loop-pass.seat.id c.in-Some.pass.seat.id c.loop-pass.seat.me.0 c.in-Some.pass.seat.me.0)

pub loop-pass-preserved : goal.loop-pass-preserved
loop-pass-preserved c =
    let i = c.loop-pass.invariant in
    let x : Pass = c.in-Some.pass in
    let rest : List Pass = c.pop.new.self.items in
    let items : c.loop-pass.passes.items ≡ rest ++ x ∷ [] = c.in-Some.ensures.items in
    let a : List View = c.loop-pass.seat.me.0.views in
    let one : x.seat.me.0.views ≡ view_in x.seat.me.0 ∷ [] = one_of x.seat.me.0.views x.one in
    let now : c.join_seat.new.seat.me.0.views ≡ a ++ view_in x.seat.me.0 ∷ [] = ap (λ m. m.0.views) c.join_seat.ensures.2 ∙ ap (λ (l : List View). a ++ l) one in
    let all : pass_views c.loop-pass.passes.items ≡ pass_views rest ++ view_in x.seat.me.0 ∷ [] = ap pass_views items ∙ map-append (λ (p : Pass). view_in p.seat.me.0) rest (x ∷ []) in
    record {
      table = c.join_seat.ensures.0 ∙ i.table;
      others = λ p b e. i.others p b (subst (λ l. slice_get l p ≡ Some b) (sym items) (get_before rest (x ∷ []) p b e));
      keeps = λ v.
          let was = i.keeps v in
          let turn = joins_last v a (pass_views rest) (view_in x.seat.me.0 ∷ []) in (
            λ m. subst (λ (l : List View). Member v (l ++ pass_views rest)) (sym now) (turn.0 (subst (λ (l : List View). Member v (a ++ l)) all (was.0 m))),
            λ m. was.1 (subst (λ (l : List View). Member v (a ++ l)) (sym all) (turn.1 (subst (λ (l : List View). Member v (l ++ pass_views rest)) now m))),
          );
      count =
          let k = i.count in
          let n = ap length now ∙ length-append a (view_in x.seat.me.0 ∷ []) in
          let m = ap length items ∙ length-append rest (x ∷ []) in
          omega (arith, k, n, m);
    }

pub returns-clause-closes : goal.returns-clause-closes
returns-clause-closes c =
    let z = c.close_with.ensures.values in
    let s : Words = z.2.0 in
    let seen = z.2.1 in
    let k : Kept c.args.self.basis s = subst (λ (b : Basis). Kept b s) c.args.self.key seen.0 in
    let i = c.loop-pass.invariant in
    let none : c.loop-pass.passes.items ≡ [] = no_items c.loop-pass.passes.items (search rules) in
    let us : List View = c.loop-pass.seat.me.0.views in
    let left : us ++ pass_views c.loop-pass.passes.items ≡ us = ap (λ (l : List Pass). us ++ pass_views l) none ∙ append-nil us in
    closes c.args.self.basis c.loop-pass.seat.id s k c.loop-pass.seat.me.0 c.args.passes.items (slots_items c.close_with.result.words) seen.1
    (λ v. (λ m. subst (Member v) left ((i.keeps v).0 m), λ m. (i.keeps v).1 (subst (Member v) (sym left) m)))
    (let e = ap (λ (l : List Pass). length l) none in let n = i.count in omega (arith, e, n))
    (sym z.2.2)

pub loop-pass-init : goal.loop-pass-init
loop-pass-init c =
    let none : c.load_new_seat-seat.result.1.me.0.views ≡ [] = ap (λ k. k.views) c.load_new_seat-seat.ensures.2 in
    record {
      table = c.load_new_seat-seat.ensures.0;
      others = c.requires;
      keeps = λ v. rw none (λ m. m, λ m. m);
      count = let k = ap (λ vs. length vs) none in omega (arith, k);
    }
