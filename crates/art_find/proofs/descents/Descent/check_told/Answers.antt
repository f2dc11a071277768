use Rattle.std.proofs.Common.{◌≡◌, ℕ, List, Option, Some, sym, subst}
use Rattle.std.specs.Prelude.{Result, Err}
use Rattle.art_find.specs.Asking.{WantsCheck}
use Rattle.art_step.specs.Acting.{Answers, telling}
use Rattle.art_find.specs.Descents.{IsReading, StageFits, answer_at, asks}
use Rattle.art_step.specs.declared.actions.Answer.TheVariants.{Checked}
use Rattle.art_step.specs.declared.actions.Action.{Action}
use Rattle.art_step.specs.declared.actions.Action.TheVariants.{Begin, Read, ReadLeaf, Check, Settle, Upgrade, Claim, Write, WriteLeaf, Commit, Release, ClearBit, GiveBack, Free, ReadEpoch, StorePin, RaiseEpoch, ReadPin}
use Rattle.art_find.specs.declared.descents.Stage.{Stage}
use Rattle.art_find.proofs.Stages.{checked_again, reads_on}
use Rattle.art_step.specs.declared.deeds.Deed.{Deed}
use Rattle.art_step.specs.declared.faults.Changed.{Changed}
use Rattle.art_step.specs.declared.views.Sizes.{Sizes}
use Rattle.art_step.specs.declared.views.View.{View}
use Rattle.art_step.proofs.Shows.{failed_rest}
use Rattle.art_find.proofs.descents.Descent.check_told.Goals as goal

module _ (z : Sizes) (k : List ℕ) (what : Option ℕ → Deed) (depth : ℕ) (stage : Stage) (u v w : View) (fits : StageFits z k what depth stage u v) where
  checked_reads : (d : Deed) (a : Action) (e : Changed) → asks stage ≡ Some a → Answers z (telling d) a (Checked (Err e)) v w → IsReading u w
  checked_reads d (Check x) e is row =
      reads_on u v w (failed_rest v w x e.found row.3) (checked_again z k what depth stage u v (subst WantsCheck (sym is) tt) fits)
  checked_reads d (Settle x) e is row =
      reads_on u v w (failed_rest v w x e.found row.3) (checked_again z k what depth stage u v (subst WantsCheck (sym is) tt) fits)
  checked_reads d (Begin c) e is row = absurd row
  checked_reads d (Read x i) e is row = absurd row
  checked_reads d (ReadLeaf x l i) e is row = absurd row
  checked_reads d (Upgrade x) e is row = absurd row
  checked_reads d (Claim n) e is row = absurd row
  checked_reads d (Write c i y) e is row = absurd row
  checked_reads d (WriteLeaf l i y) e is row = absurd row
  checked_reads d (Commit c b) e is row = absurd row
  checked_reads d (Release c b) e is row = absurd row
  checked_reads d (ClearBit p i b) e is row = absurd row
  checked_reads d (GiveBack d') e is row = absurd row
  checked_reads d (Free d') e is row = absurd row
  checked_reads d ReadEpoch e is row = absurd row
  checked_reads d (StorePin y) e is row = absurd row
  checked_reads d RaiseEpoch e is row = absurd row
  checked_reads d (ReadPin q) e is row = absurd row

pub returns-in-Ok-clause-fits : goal.returns-in-Ok-clause-fits
returns-in-Ok-clause-fits c = λ z k what u v w asked fits is row.
    c.checked_at.ensures.fits z k what u v w asked fits is (subst (λ (r : Result (Unit {0}) Changed). Answers z (telling (what (answer_at c.args.self.now.stage))) asked (Checked r) v w) c.in-Ok.is row)

pub returns-in-Err-clause-fits : goal.returns-in-Err-clause-fits
returns-in-Err-clause-fits c = λ z k what u v w asked fits is row.
    let m = c.args.self.now in
    let d = what (answer_at m.stage) in
    c.failed.ensures.fits z k what u w
    (checked_reads z k what m.depth m.stage u v w fits d asked c.in-Err.field-0 is
    (subst (λ (r : Result (Unit {0}) Changed). Answers z (telling d) asked (Checked r) v w) c.in-Err.is row))
