use Rattle.std.proofs.Common.{◌≤◌, ◌∙◌, sym, subst, arith, length, IsUtf8}
use Rattle.art_key.proofs.Texts.{front_is_long, front_is_no_text, front_is_text}
use Rattle.art_key.proofs.kinds.TextsCodes.front.Goals as goal

pub returns-in_err-text : goal.returns-in_err-text
returns-in_err-text c = rw (c.from_residual.ensures) (sym (front_is_long c.args.self.longest c.args.bytes.now c.args.self.short c.in_err-text.ensures.none))

pub returns-in_default : goal.returns-in_default
returns-in_default c =
    let read = c.in_ok-text.ensures.some in
    let short : length c.in_ok-text.text.items ≤ c.args.self.longest = omega (arith, c.if-len-from.false, c.len.ensures.value, c.from.ensures) in
    let none : ¬ (IsUtf8 c.in_ok-text.text.items) = subst (λ t. ¬ (IsUtf8 t)) c.as_slice.ensures.value c.in_default.ensures.cases.0 in
    sym (front_is_no_text c.args.self.longest c.args.bytes.now c.in_ok-text.text.items c.in_ok-text.rest.now read short none)

pub returns : goal.returns
returns c =
    let read = c.in_ok-text.ensures.some in
    let short : length c.in_ok-text.text.items ≤ c.args.self.longest = omega (arith, c.if-len-from.false, c.len.ensures.value, c.from.ensures) in
    let utf8 : IsUtf8 c.in_ok-text.text.items = subst IsUtf8 c.as_slice.ensures.value c.in-Ok.ensures.cases.1 in
    let same = c.in_ok-new.ensures.value ∙ c.in-Ok.ensures.cases.0 ∙ c.as_slice.ensures.value in
    rw same (sym (front_is_text c.args.self.longest c.args.bytes.now c.in_ok-text.text.items c.in_ok-text.rest.now read short utf8))
