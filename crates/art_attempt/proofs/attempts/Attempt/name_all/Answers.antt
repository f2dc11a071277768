-- The steps are those of the naming.
use Rattle.std.proofs.Common.{◌≡◌, ◌∙◌, Option, Some, ap, rules, sym, subst}
use Rattle.std.specs.Prelude.{⊤}
use Rattle.art_attempt.proofs.Phases.{prepares_none, prepares_one}
use Rattle.art_attempt.proofs.Stages.{asks_part, at_part}
use Rattle.art_attempt.specs.Attempts.{Fits, deed_at, naming_asks}
use Rattle.art_attempt.specs.declared.attempts.Part.{Part}
use Rattle.art_attempt.specs.declared.attempts.Part.TheVariants as parts
use Rattle.art_attempt.specs.declared.attempts.Stage.TheVariants as stages
use Rattle.art_attempt.proofs.Asked.{naming_asks_look}
use Rattle.art_attempt.specs.declared.naming.Naming.{Naming}
use Rattle.art_find.specs.Asking.{MayLook}
use Rattle.art_find.specs.declared.findings.Position.{Position}
use Rattle.art_step.proofs.Counting.{look_counts}
use Rattle.art_step.specs.Acting.{Answers, telling}
use Rattle.art_step.specs.declared.actions.Action.{Action}
use Rattle.art_step.specs.declared.views.Sizes.{Sizes}
use Rattle.art_step.specs.declared.views.View.{View}
use Rattle.art_attempt.proofs.attempts.Attempt.name_all.Goals as goal

asks_name : (o : Option Action) (t : Position) (s : Naming) (a : Action) → o ≡ naming_asks t s → o ≡ Some a → naming_asks t s ≡ Some a
asks_name o t s a e is = sym e ∙ is

pub look-requires : goal.look-requires
look-requires g c =
    let z = g.S.Steps.sizes c.args.steps.now in
    let v = g.S.Steps.view c.loop-left.steps in
    let i = c.loop-left.invariant in
    let m = c.loop-left.self in
    let r = c.loop-left.room in
    let h = (at_part z i.here.0 m r v c.in-Placed.position c.in-Placed.part (parts.Naming c.in-Naming.byte c.in-Naming.node c.in-Naming.naming) c.in-Placed.is c.in-Naming.is i.here.1).0 in
    record {
      allowed = subst (λ (y : Sizes). MayLook y (λ s. ⊤) v c.in-Some.asked) (sym i.sizes)
          (c.in-Some.ensures.allowed z r.row.key.items c.in-Naming.node r.read_set r.lower h.early v h.fits);
    }

pub name_told-requires-clause-stage : goal.name_told-requires-clause-stage
name_told-requires-clause-stage g c =
    let t = c.in-Placed.position in
    (t, c.in-Naming.byte, c.in-Naming.node, c.in-Naming.naming, c.in-Placed.is ∙ ap (λ (p : Part). stages.Placed t p) c.in-Naming.is)

pub name_told-requires-clause-told : goal.name_told-requires-clause-told
name_told-requires-clause-told g c =
    let z = g.S.Steps.sizes c.args.steps.now in
    let v = g.S.Steps.view c.loop-left.steps in
    let w = g.S.Steps.view c.look.new.steps in
    let i = c.loop-left.invariant in
    let m = c.loop-left.self in
    let r = c.loop-left.room in
    let d = deed_at m r in
    let a = c.in-Some.asked in
    let row : Answers z (telling d) a c.in-Some-look.answer v w = subst (λ (y : Sizes). Answers y (telling d) a c.in-Some-look.answer v w) i.sizes (c.in-Some-look.ensures.row d) in
    (z, i.here.0, v, w, a, i.here.1, asks_part m r c.in-Placed.position c.in-Placed.part (parts.Naming c.in-Naming.byte c.in-Naming.node c.in-Naming.naming) c.in-Placed.is c.in-Naming.is (Some a) (asks_name c.next.result c.in-Placed.position c.in-Naming.naming a c.next.ensures.asks c.in-Some.is), row)

pub loop-left-init : goal.loop-left-init
loop-left-init g c =
    let s = c.args.steps.now in
    let none = prepares_none (g.S.Steps.sizes s) c.args.self.now c.args.room.now c.args.left.now (g.S.Steps.view s) c.requires.turn in
    search rules

pub loop-left-preserved : goal.loop-left-preserved
loop-left-preserved g c =
    let s = c.args.steps.now in
    let t = c.loop-left.steps in
    let z = g.S.Steps.sizes s in
    let v = g.S.Steps.view t in
    let w = g.S.Steps.view c.look.new.steps in
    let i = c.loop-left.invariant in
    let m = c.loop-left.self in
    let r = c.loop-left.room in
    let d = deed_at m r in
    let a = c.in-Some.asked in
    let row : Answers z (telling d) a c.in-Some-look.answer v w = subst (λ (y : Sizes). Answers y (telling d) a c.in-Some-look.answer v w) i.sizes (c.in-Some-look.ensures.row d) in
    let is = asks_name c.next.result c.in-Placed.position c.in-Naming.naming a c.next.ensures.asks c.in-Some.is in
    let one = (look_counts z d a c.in-Some-look.answer v w (naming_asks_look c.in-Placed.position c.in-Naming.naming a is) row).steps in
    let on : (u : View) → Fits z u m r v → Fits z u c.name_told.new.self c.name_told.new.room w = λ u fits.
    c.name_told.ensures.fits z u v w a fits (asks_part m r c.in-Placed.position c.in-Placed.part (parts.Naming c.in-Naming.byte c.in-Naming.node c.in-Naming.naming) c.in-Placed.is c.in-Naming.is (Some a) is) row in
    record {
      only = g.met.S.Steps.only_then s t c.look.new.steps i.only c.look.ensures.only;
      sizes = g.met.S.Steps.only_sizes t c.look.new.steps c.look.ensures.only ∙ i.sizes;
      apart = c.name_told.ensures.not_overlaps;
      free = c.name_told.ensures.free;
      here = (i.here.0, on i.here.0 i.here.1);
      prepared = prepares_one i.prepared c.name_told.ensures.kept one c.loop-left-test.true on;
    }
