-- Where no admitted key begins another, no attempt ends as an overlap: at the check of the place a tree would have two such keys.
use Rattle.std.proofs.Common.{◌≡◌, ◌∙◌, ℕ, Bool, true, false, List, Option, Some, ⊎_elim, refl, sym, ap, subst}
use Rattle.std.specs.Prelude.{⊤, Result, Ok, Err}
use Rattle.std.proofs.lemmas.Option.{same_Some}
use Rattle.art_attempt.proofs.Finds.{stands_there}
use Rattle.art_attempt.proofs.Stages.{is_finding}
use Rattle.art_attempt.specs.Attempts.{Fits, IsOverlapBy, asks, asks_at, asks_place, check_as, ended_so, entered_by, settled_of, settles}
use Rattle.art_attempt.specs.declared.attempts.Ending.TheVariants.{Overlaps as overlaps}
use Rattle.art_attempt.specs.declared.attempts.Attempt.{Attempt}
use Rattle.art_attempt.specs.declared.attempts.Job.{Job}
use Rattle.art_attempt.specs.declared.attempts.Job.TheVariants.{Insert, Remove}
use Rattle.art_attempt.specs.declared.attempts.Stage.{Stage}
use Rattle.art_attempt.specs.declared.attempts.Room.{Room}
use Rattle.art_find.specs.Descents as descents
use Rattle.art_find.specs.Verdicts.{HasOverlap, Says}
use Rattle.art_find.specs.declared.descents.Verdict.{Verdict}
use Rattle.art_find.specs.declared.descents.Verdict.TheVariants.{Found, Empty, LeafMismatch, PrefixMismatch, NoChild, Overlaps, Torn}
use Rattle.art_step.specs.Acting.{PassesAmong, passed}
use Rattle.art_step.specs.declared.actions.Action.{Action}
use Rattle.art_step.specs.declared.actions.Action.TheVariants.{Check}
use Rattle.art_step.specs.declared.actions.Answer.{Answer}
use Rattle.art_step.specs.declared.actions.Answer.TheVariants.{Begun, Word, Checked, Upgraded, Done}
use Rattle.art_find.specs.declared.findings.Position.{Position}
use Rattle.art_step.specs.Histories.{AreApart}
use Rattle.art_step.specs.Knowledge.{HoldsAmong}
use Rattle.art_step.specs.Shows.{Shows}
use Rattle.art_step.specs.declared.faults.UpgradeFault.{UpgradeFault}
use Rattle.art_step.specs.declared.faults.UpgradeFault.TheVariants as fault
use Rattle.art_step.specs.declared.views.Sizes.{Sizes}
use Rattle.art_step.specs.declared.views.Stamp.{Stamp}
use Rattle.art_step.specs.declared.views.View.{View}
use Rattle.art_tree.specs.Tree.{Begins}

-- an attempt ends so at no other place
pub overlap_there : (found : Verdict) → entered_by found ≡ Some overlaps → found ≡ Overlaps
overlap_there (Found l value) is = cc
overlap_there Empty is = cc
overlap_there (LeafMismatch l at byte) is = cc
overlap_there (PrefixMismatch n header at) is = cc
overlap_there (NoChild n header) is = cc
overlap_there Overlaps is = refl
overlap_there Torn is = cc

-- nor where a change was made or given up
pub made_apart : (j : Job) (value : ℕ) (made : Result ⊤ UpgradeFault) → ended_so j value made ≡ overlaps → ⊥
made_apart Insert value (Ok done) is = cc
made_apart Remove value (Ok done) is = cc
made_apart j value (Err (fault.Changed e)) is = cc
made_apart j value (Err (fault.Exhausted c)) is = cc

-- an overlap comes by the answer to a check, whose stamp shows one
pub overlap_checked : (z : Sizes) (u v : View) (m : Attempt) (r : Room) (asked : Action) (answer : Answer) → Fits z u m r v → asks m r ≡ Some asked → IsOverlapBy m answer
    → (x : Stamp) × (asked ≡ Check x) × Shows z v x (λ s. HasOverlap s r.row.key.items)
overlap_checked z u v m r asked answer fits at o =
    let k = r.row.key.items in
    let t = o.position in
    let f = is_finding z u m r v o.by o.finding fits in
    let there = stands_there z k (settled_of m.job r.row) o.by r.read_set f.early v f.fits t o.there in
    let says : Says z k t.depth t.stamp Overlaps v = subst (λ (found : Verdict). Says z k t.depth t.stamp found v) o.overlaps there.standing.says in
    let so : settles m.job t.verdict ≡ false = ap (λ (j : Job). settles j t.verdict) o.job ∙ ap (settles Insert) o.overlaps in
    let checks : asks m r ≡ Some (Check t.stamp) =
    ap (λ (s : Stage). asks_at s m r) o.finding
    ∙ (ap (λ (p : Option Position). asks_place m.job p (descents.asks o.by.descent.stage)) o.there
    ∙ ap (λ (b : Bool). Some (check_as b t.stamp)) so) in
    (t.stamp, same_Some {A = Action} asked (Check t.stamp) (sym at ∙ checks), says)

module _ (A : List ℕ → Type 0) (z : Sizes) (v : View) where
  -- what such a check tells
  passed_among : (x : Stamp) (answer : Answer) → PassesAmong A z v (Check x) answer → passed answer ≡ true → HoldsAmong A z v x
  passed_among x (Checked (Ok done)) among is = among
  passed_among x (Checked (Err e)) among is = cc
  passed_among x (Begun r) among is = cc
  passed_among x (Word y) among is = cc
  passed_among x (Upgraded r) among is = cc
  passed_among x Done among is = cc

  -- where keys are apart, none of them overlaps another
  pub none_overlaps : AreApart A → (x : Stamp) (k : List ℕ) → A k → HoldsAmong A z v x → Shows z v x (λ s. HasOverlap s k) → ⊥
  none_overlaps apart x k is among shows =
      let o = shows among.cells among.shape among.holds in
      let other : A o.key = among.keys o.key o.value o.row in
      ⊎_elim
      (λ (front : Begins o.key k). o.other (apart o.key k other is front))
      (λ (front : Begins k o.key). o.other (sym (apart k o.key is other front)))
      o.overlaps

  pub never_overlaps : AreApart A → (u : View) (m : Attempt) (r : Room) → Fits z u m r v → A r.row.key.items → (asked : Action) (answer : Answer) → asks m r ≡ Some asked → PassesAmong A z v asked answer → IsOverlapBy m answer
      → ⊥
  never_overlaps apart u m r fits is asked answer at among o =
      let c = overlap_checked z u v m r asked answer fits at o in
      let here : PassesAmong A z v (Check c.0) answer = subst (λ (a : Action). PassesAmong A z v a answer) c.1 among in
      none_overlaps apart c.0 r.row.key.items is (passed_among c.0 answer here o.succeeded) c.2
