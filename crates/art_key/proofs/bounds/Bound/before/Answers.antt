use Rattle.std.proofs.Common.{◌∙◌, refl}
use Rattle.art_key.proofs.bounds.Bound.before.Goals as goal

pub returns-in-At-At : goal.returns-in-At-At
returns-in-At-At c =
    let at = c.in-At-At in
    c.is_lt.ensures ∙ rw (c.cmp.ensures, c.as_slice.ensures.value, c.as_slice-in-At-At.ensures.value, at.is-0, at.is-1) refl

pub returns-in-At-End : goal.returns-in-At-End
returns-in-At-End c = rw (c.in-At-End.is-0, c.in-At-End.is-1) refl

pub returns-in-End-default : goal.returns-in-End-default
returns-in-End-default c = rw c.in-End-default.is-0 refl
