use Rattle.std.proofs.Common.{ℕ, ◌+◌, sym, subst}
use Rattle.std.specs.Prelude.{IfSome}
use Rattle.art_find.specs.Asking.{MayLook}
use Rattle.art_step.specs.declared.actions.Action.TheVariants.{ReadLeaf}
use Rattle.art_look.specs.Looks.{Settles, asks}
use Rattle.art_look.specs.declared.looks.LookStage.{LookStage}
use Rattle.art_look.proofs.Allowed.{allowed}
use Rattle.art_look.proofs.looks.Look.next.Goals as goal

pub returns-in-Below-clause-allowed : goal.returns-in-Below-clause-allowed
returns-in-Below-clause-allowed c = λ z lo hi t u v fits.
    let m = c.args.self.now in
    subst (λ (g : LookStage). IfSome (asks g) (MayLook z (Settles lo t m.stage) v)) c.in-Below.is (allowed z lo hi m.depth t m.stage u v fits)

pub returns-in-Value-clause-allowed : goal.returns-in-Value-clause-allowed
returns-in-Value-clause-allowed c = λ z lo hi t u v fits.
    let m = c.args.self.now in
    subst (λ (g : LookStage). IfSome (asks g) (MayLook z (Settles lo t m.stage) v)) c.in-Value.is (allowed z lo hi m.depth t m.stage u v fits)

pub returns-in-Length-clause-allowed : goal.returns-in-Length-clause-allowed
returns-in-Length-clause-allowed c = λ z lo hi t u v fits.
    let m = c.args.self.now in
    subst (λ (g : LookStage). IfSome (asks g) (MayLook z (Settles lo t m.stage) v)) c.in-Length.is (allowed z lo hi m.depth t m.stage u v fits)

pub returns-in-Bytes-clause-allowed : goal.returns-in-Bytes-clause-allowed
returns-in-Bytes-clause-allowed c = λ z lo hi t u v fits.
    let m = c.args.self.now in
    let x = c.in-Bytes.seen in
    subst (λ (i : ℕ). MayLook z (Settles lo t m.stage) v (ReadLeaf x.stamp x.leaf (2 + i))) (sym c.from-in-Bytes.ensures)
    (subst (λ (g : LookStage). IfSome (asks g) (MayLook z (Settles lo t m.stage) v)) c.in-Bytes.is (allowed z lo hi m.depth t m.stage u v fits))

pub returns-in-Decided-clause-allowed : goal.returns-in-Decided-clause-allowed
returns-in-Decided-clause-allowed c = λ z lo hi t u v fits.
    let m = c.args.self.now in
    subst (λ (g : LookStage). IfSome (asks g) (MayLook z (Settles lo t m.stage) v)) c.in-Decided.is (allowed z lo hi m.depth t m.stage u v fits)
