use Rattle.std.proofs.Common.{rules, ◌≡◌, ◌++◌, ◌∙◌, List, [], ◌∷◌, length, ⊎_elim, append-nil, ap, refl, subst, sym}
use Rattle.art_change.specs.Calls.{IsCaller, IsFresh}
use Rattle.art_change.specs.declared.callers.Caller.{Caller}
use Rattle.art_shared.specs.declared.pass.Pass.{Pass as Seat}
use Rattle.art_step.specs.Views.{Member}
use Rattle.art_table.proofs.Opened.{HasCaller, one_more, opens}
use Rattle.art_table.proofs.tables.opened.Goals as goal
use Rattle.art_table.specs.Closing.{seats_of}
use Rattle.art_table.specs.declared.passes.Pass.{Pass}

no_items : (xs : List Seat) → length xs ≡ 0 → xs ≡ []
no_items [] e = refl
no_items (x ∷ xs) e = cc

pub loop-seat-init : goal.loop-seat-init
loop-seat-init c = record {
  all = ap (λ (l : List Pass). c.in_ok-shared.seats.items ++ seats_of l) c.in_ok-passes.ensures.items ∙ append-nil c.in_ok-shared.seats.items;
  has = λ p i. absurd (subst (Member p) c.in_ok-passes.ensures.items i);
}

pub loop-seat-preserved : goal.loop-seat-preserved
loop-seat-preserved c =
    let i = c.loop-seat.invariant in
    let rest = c.pop.new.self.items in
    let z = c.sizes_of-sizes.result in
    let p : Pass = record { seat = c.in-Some.seat; caller = c.in_ok-caller.caller } in
    let items = c.in_ok-insert.ensures.items in
    let value : c.in_ok-caller.caller.value ≡ c.new.result = search (rules, c.in_ok-caller.ensures) in
    let own : HasCaller z p = λ u fresh. subst (λ (x : Caller). IsCaller z u x) (sym value) (c.new.ensures u (subst (IsFresh z u) (sym c.number.ensures.is) fresh)) in
    record {
      all = ap (λ (l : List Pass). rest ++ seats_of l) items ∙ (one_more rest c.loop-seat.seats.items c.in-Some.seat p c.loop-seat.passes.items refl c.in-Some.ensures.items ∙ i.all);
      has = λ q m. ⊎_elim (λ (e : q ≡ p). subst (HasCaller z) (sym e) own) (λ (k : Member q c.loop-seat.passes.items). i.has q k) (subst (Member q) items m);
    }

pub returns : goal.returns
returns c =
    let i = c.loop-seat.invariant in
    let none : c.loop-seat.seats.items ≡ [] = no_items c.loop-seat.seats.items (search rules) in
    let same : seats_of c.loop-seat.passes.items ≡ c.in_ok-shared.seats.items = sym (ap (λ (l : List Seat). l ++ seats_of c.loop-seat.passes.items) none) ∙ i.all in
    opens c.args.schema c.args.config.now c.sizes_of-sizes.result c.in_ok-shared.shared c.in_ok-shared.seats.items c.loop-seat.passes.items c.sizes_of-sizes.ensures c.requires c.in_ok-shared.ensures same i.has
