use Rattle.std.proofs.Common.{◌≡◌, ◌∙◌, List, ℕ, sym, refl, subst, Option, Some, None}
use Rattle.std.specs.Prelude.{IfSome}
use Rattle.art_attempt.proofs.Given.{plain_may, supply_plain}
use Rattle.art_attempt.proofs.Asked.{supply_asks_supply}
use Rattle.art_attempt.proofs.attempts.Attempt.supply_next.Goals as goal
use Rattle.art_attempt.specs.Asking.{IsAllowed}
use Rattle.art_attempt.specs.Cases.{demand_of}
use Rattle.art_attempt.specs.Reserve.{Fits as SupplyFits, asks}
use Rattle.art_step.specs.declared.actions.Action.{Action}
use Rattle.art_step.specs.Acting as acting

pub returns-clause-allowed : goal.returns-clause-allowed
returns-clause-allowed c z u v t k d h = by_answer c.next.result refl
  where
    by_answer : (o : Option Action) → c.next.result ≡ o → IfSome o (IsAllowed z d c.args.room.now.change v)
    by_answer None is = tt
    by_answer (Some a) is =
        let r = c.args.room.now in
        let demand = demand_of z k t.verdict in
        let key = c.as_slice-key.ensures.value in
        let at = subst (λ (l : List ℕ). asks l r.row.value r.stock c.args.reserve.now ≡ Some a) key (sym {b = asks _ r.row.value r.stock c.args.reserve.now} c.next.ensures.asks ∙ is) in
        let may = c.next.ensures.allowed z h.early v demand (subst (λ (l : List ℕ). SupplyFits z demand l r.row.value c.args.reserve.now r.stock h.early v) (sym key) h.fits) in
        plain_may z d r.change v a (supply_plain a (supply_asks_supply r.row.key.items r.row.value r.stock c.args.reserve.now a at))
        (subst (λ (o : Option Action). IfSome o (acting.IsAllowed z None v)) is may)
