-- Each step of an attempt is as many as its answer says.
use Rattle.std.proofs.Common.{◌≡◌, ◌∙◌, ◌+◌, ℕ, nat_lt, List, Option, Some, None, sym, ap, subst}
use Rattle.std.proofs.lemmas.Option.{same_Some}
use Rattle.art_attempt.proofs.Finds.{finding_allowed}
use Rattle.art_attempt.proofs.Given.{ask_looks, look_once, look_row, made_row, plain_row, supply_once, supply_plain}
use Rattle.art_attempt.proofs.Asked.{if_some, naming_asks_look, reads_look, supply_asks_supply, validate_asks_look}
use Rattle.art_plan.proofs.Keeping.{asks_made}
use Rattle.art_attempt.specs.Asking.{Answers, given}
use Rattle.art_attempt.specs.Attempts.{Fits, PartFits, StageFits, asks, asks_at, deed_at, deed_by, part_asks}
use Rattle.art_attempt.specs.Cases.{cells_of, demand_of}
use Rattle.art_attempt.specs.declared.attempts.Attempt.{Attempt}
use Rattle.art_attempt.specs.declared.attempts.Part.{Part}
use Rattle.art_attempt.specs.declared.attempts.Part.TheVariants as part
use Rattle.art_attempt.specs.declared.attempts.Stage.{Stage}
use Rattle.art_attempt.specs.declared.attempts.Stage.TheVariants as stage
use Rattle.art_attempt.specs.declared.attempts.Room.{Room}
use Rattle.art_cell.specs.declared.cells.Pool.{Pool}
use Rattle.art_find.specs.declared.findings.Position.{Position}
use Rattle.art_epoch.specs.Taking as taking
use Rattle.art_epoch.specs.declared.stocks.Search.{Search}
use Rattle.art_epoch.specs.declared.stocks.Search.TheVariants.{Looking, Clearing, Took}
use Rattle.art_epoch.specs.declared.stocks.Taking.{Taking}
use Rattle.art_epoch.specs.declared.stocks.Stock.{Stock}
use Rattle.art_attempt.proofs.Reserves.{one_written}
use Rattle.art_attempt.specs.Reserve as reserve
use Rattle.art_attempt.specs.Reserve.{Fits as SupplyFits}
use Rattle.art_attempt.specs.declared.reserve.Reserve.{Reserve}
use Rattle.art_attempt.specs.declared.reserve.Reserve.TheVariants as at
use Rattle.art_attempt.specs.declared.reserve.Demand.{Demand}
use Rattle.art_step.proofs.Counting.{look_counts, steps_made, taking_counts}
use Rattle.art_step.specs.Acting as acting
use Rattle.art_step.specs.Acting.{IsLook, steps_in}
use Rattle.art_step.specs.declared.actions.Action.{Action}
use Rattle.art_step.specs.declared.actions.Action.TheVariants.{ClearBit}
use Rattle.art_step.specs.declared.actions.Answer.{Answer}
use Rattle.art_step.specs.declared.actions.Answer.TheVariants.{Begun, Word, Checked, Upgraded, Done}
use Rattle.art_plan.proofs.Told.{allowed}
use Rattle.art_plan.specs.Apply as apply
use Rattle.art_plan.specs.declared.apply.Apply.{Apply}
use Rattle.art_plan.specs.declared.changes.Change.{Change as ChangeOf}
use Rattle.art_step.specs.declared.deeds.Deed.{Deed}
use Rattle.art_step.specs.declared.views.Sizes.{Sizes}
use Rattle.art_step.specs.declared.views.View.{View}

-- ---- of a part

module _ (z : Sizes) (v w : View) where
  clear_one : (p : Pool) (i : ℕ) (bit : Option ℕ) (r : Answer) → acting.Answers z None (ClearBit p i bit) r v w → w.steps ≡ v.steps + 1
  clear_one p i bit (Word x) row = ap (λ (t : View). t.steps) row.is ∙ taking_counts v p i bit x row.words
  clear_one p i bit (Begun s) row = absurd row
  clear_one p i bit (Checked s) row = absurd row
  clear_one p i bit (Upgraded s) row = absurd row
  clear_one p i bit Done row = absurd row

  taking_one : (t : Taking) (a : Action) (r : Answer) → taking.asks t ≡ Some a → acting.Answers z None a r v w → w.steps ≡ v.steps + 1
  taking_one t a r is row = by_search t.search is
    where
      by_search : (s : Search) → taking.asks_at t.pool t.words t.first s ≡ Some a → w.steps ≡ v.steps + 1
      by_search (Looking n) e =
          let clear = ClearBit t.pool (taking.around t.words t.first n) None in
          subst (λ (b : Action). acting.Answers z None b r v w → w.steps ≡ v.steps + 1) (if_some (nat_lt n t.words) clear a e) (clear_one t.pool (taking.around t.words t.first n) None r) row
      by_search (Clearing n k) e =
          let clear = ClearBit t.pool (taking.around t.words t.first n) (Some k) in
          subst (λ (b : Action). acting.Answers z None b r v w → w.steps ≡ v.steps + 1) (same_Some clear a e) (clear_one t.pool (taking.around t.words t.first n) (Some k) r) row
      by_search (Took n k) e = absurd (cc)

  reserve_one : (demand : Demand) (k : List ℕ) (value : ℕ) (s : Stock) (u : View) (m : Reserve) (a : Action) (r : Answer) → SupplyFits z demand k value m s u v
      → reserve.asks k value s m ≡ Some a → acting.Answers z None a r v w → w.steps ≡ v.steps + 1
  reserve_one demand k value s u (at.Leaf t) a r f is row = taking_one t a r is row
  reserve_one demand k value s u (at.LeafWriter p) a r f is row = one_written z demand k value s u p v w f a r is row
  reserve_one demand k value s u (at.Node t) a r f is row = taking_one t a r is row
  reserve_one demand k value s u (at.Ended o) a r f is row = absurd (cc)

  module _ (d : Deed) (c : ChangeOf) (a : Action) (r : Answer) (row : Answers z d c a r v w) where
    pub look_made : IsLook a → w.steps ≡ v.steps + steps_in r
    look_made is = (look_counts z d a r v w is (look_row z d c a r v w is row)).steps ∙ sym (ap (λ (n : ℕ). v.steps + n) (look_once z (given d c a) a r v w is row))

    pub supply_made : (demand : Demand) (k : List ℕ) (value : ℕ) (s : Stock) (u : View) (m : Reserve) → SupplyFits z demand k value m s u v → reserve.asks k value s m ≡ Some a
        → w.steps ≡ v.steps + steps_in r
    supply_made demand k value s u m f is =
        let supply = supply_asks_supply k value s m a is in
        reserve_one demand k value s u m a r f is (plain_row z d c a r v w (supply_plain a supply) row)
        ∙ sym (ap (λ (n : ℕ). v.steps + n) (supply_once z (given d c a) a r v w supply row))

    pub change_made : (u : View) (m : Apply) → apply.Fits z c m u v → apply.asks c m ≡ Some a → w.steps ≡ v.steps + steps_in r
    change_made u m f is = steps_made z (apply.brings c) a r v w (allowed z u v c m a f is) (made_row z d c a r v w (asks_made c m a is) row)

-- ---- of an attempt

module _ (z : Sizes) (u : View) (m : Attempt) (r : Room) (v w : View) (a : Action) (answer : Answer) (row : Answers z (deed_at m r) r.change a answer v w) where
  part_made : (t : Position) (p : Part) → PartFits z u m.job t p r v → part_asks p t r ≡ Some a → w.steps ≡ v.steps + steps_in answer
  part_made t (part.Reserve c s) fits is =
      supply_made z v w (deed_at m r) r.change a answer row (demand_of z c t.verdict) r.row.key.items r.row.value r.stock fits.0.early s fits.0.fits is
  part_made t (part.Validate c s) fits is = look_made z v w (deed_at m r) r.change a answer row (validate_asks_look t (cells_of c t.verdict) s a is)
  part_made t (part.Reading q) fits is = look_made z v w (deed_at m r) r.change a answer row (reads_look t.stamp q a is)
  part_made t (part.Naming byte n s) fits is = look_made z v w (deed_at m r) r.change a answer row (naming_asks_look t s a is)

  made_at : (s : Stage) → StageFits z u s m r v → asks_at s m r ≡ Some a → w.steps ≡ v.steps + steps_in answer
  made_at (stage.Finding f) fits is = look_made z v w (deed_at m r) r.change a answer row (ask_looks z (deed_by m.job f r) v a (finding_allowed z u m.job f r v fits a is))
  made_at (stage.Placed t p) fits is = part_made t p fits is
  made_at (stage.Apply s) fits is = change_made z v w (deed_at m r) r.change a answer row fits.0.early s fits.0.fits is
  made_at (stage.Ended e) fits is = absurd (cc)

  pub attempt_steps : Fits z u m r v → asks m r ≡ Some a → w.steps ≡ v.steps + steps_in answer
  attempt_steps fits is = made_at m.stage fits.stage is
