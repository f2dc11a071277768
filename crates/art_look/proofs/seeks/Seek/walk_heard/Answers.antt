use Rattle.std.proofs.Common.{◌≡◌, ◌∙◌, refl, sym, subst}
use Rattle.art_look.proofs.SeekEnds.{ends_as}
use Rattle.art_look.proofs.seeks.Seek.walk_heard.Goals as goal
use Rattle.art_look.proofs.seeks.Seek.walk_heard.Goals.{then-not-on, else-not-on}
use Rattle.art_look.specs.Seeks.{IsWalking, heard}
use Rattle.art_look.specs.declared.seeks.Seek.{Seek}

pub returns-in-Some-clause-fits : goal.returns-in-Some-clause-fits
returns-in-Some-clause-fits c z k hi u w t walking =
    let s = c.if-not-on.self in
    let same : s ≡ heard c.args.on c.args.self.now = elim c.if-not-on.branch [
      | then-not-on b ↦ b.self-is ∙ rw b.if-not-on.true refl
      | else-not-on b ↦ b.self-is ∙ rw b.if-not-on.false refl
    ] in
    c.close.ensures.fits z k hi u w t (subst (λ (a : Seek). IsWalking z k hi u a t w) (sym same) walking) (ends_as s.walk s.left c.in-Some.outcome (sym c.ended.ensures ∙ c.in-Some.is))

pub returns-in-None-clause-fits : goal.returns-in-None-clause-fits
returns-in-None-clause-fits c z k hi u w t walking =
    let s = c.if-not-on.self in
    let same : s ≡ heard c.args.on c.args.self.now = elim c.if-not-on.branch [
      | then-not-on b ↦ b.self-is ∙ rw b.if-not-on.true refl
      | else-not-on b ↦ b.self-is ∙ rw b.if-not-on.false refl
    ] in
    c.turn.ensures.fits z k hi u w t (subst (λ (a : Seek). IsWalking z k hi u a t w) (sym same) walking) (sym c.ended.ensures ∙ c.in-None.is)
