use Rattle.std.proofs.Common.{◌≡◌, ◌∙◌, true, false, sym, subst, arith}
use Rattle.art_attempt.specs.declared.attempts.Attempt.{Attempt}
use Rattle.art_change.proofs.Staged.{same_attempt, steps_at}
use Rattle.art_change.proofs.writes.Write.turn.Goals as goal
use Rattle.art_change.specs.Writes.{IsTrying, StageFits}
use Rattle.art_change.specs.declared.writes.Stage.{Stage as StageOf}
use Rattle.art_change.specs.declared.writes.Stage.TheVariants.{Trying}

pub returns-then-is_free-clause-left : goal.returns-then-is_free-clause-left
returns-then-is_free-clause-left c qs =
    let few = c.begin_exit.ensures.left qs in
    let same = steps_at c.args.self.now c.args.room.now (Trying c.in-Trying.attempt) c.in-Trying.is qs in
    omega (arith, few, same)

pub returns-then-is_free-clause-fits : goal.returns-then-is_free-clause-fits
returns-then-is_free-clause-fits c z u v ps qs t at room is =
    let m = c.args.self.now in
    let r = c.args.room.now in
    let i = c.in-Trying.attempt in
    let k = subst (λ (a : Attempt). IsTrying z u ps m a r qs v) (same_attempt m.stage t i at c.in-Trying.is) is in
    let so = c.is_free.ensures.free c.if-is_free.true k.going z k.began v r k.fits in
    c.begin_exit.ensures.fits z u k.opened k.began v ps qs room k.frame k.begun (so, c.if-self-eq0.true) k.counted

pub returns-then-is_free-clause-apart : goal.returns-then-is_free-clause-apart
returns-then-is_free-clause-apart c is = let no = sym c.begin_exit.ensures.outcome ∙ is in cc

pub returns-else-is_free-clause-fits : goal.returns-else-is_free-clause-fits
returns-else-is_free-clause-fits c z u v ps qs t at room is =
    let m = c.args.self.now in
    let r = c.args.room.now in
    let i = c.in-Trying.attempt in
    let k = subst (λ (a : Attempt). IsTrying z u ps m a r qs v) (same_attempt m.stage t i at c.in-Trying.is) is in
    record {
      room = room;
      stage = subst (λ (s : StageOf). StageFits z u ps s m r qs v) (sym c.in-Trying.is)
          (k, λ free. let no : true ≡ false = sym free ∙ (sym c.is_free.ensures.at ∙ c.if-is_free.false) in absurd (cc));
    }

pub returns-else-self-eq0-clause-fits : goal.returns-else-self-eq0-clause-fits
returns-else-self-eq0-clause-fits c z u v ps qs t at room is =
    let m = c.args.self.now in
    let r = c.args.room.now in
    record {
      room = room;
      stage = subst (λ (s : StageOf). StageFits z u ps s m r qs v) (sym at) (is, λ free. let some = c.if-self-eq0.false in omega (arith, some));
    }
