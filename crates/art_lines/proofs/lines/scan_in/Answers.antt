use Rattle.std.proofs.Common.{◌≡◌, ◌<◌, ℕ, List, arith, get_or, length, refl}
use Rattle.std.proofs.lemmas.List.{get_or_default}
use Rattle.std.proofs.lemmas.Result.{err_from_is_err_and}
use Rattle.serde_json.specs.declared.value.Value.{Value}
use Rattle.art_lines.proofs.LineLaws.{scan_said-other, scan_said-three}
use Rattle.art_lines.proofs.lines.scan_in.Goals as goal

stands : (vs : List Value) (i : ℕ) (v : Value) → i < length vs → get_or vs i v ≡ get_or vs i (get_or vs i v)
stands vs i v within = get_or_default vs i v (get_or vs i v) within

pub returns-then-rest-ne3 : goal.returns-then-rest-ne3
returns-then-rest-ne3 c = rw (scan_said-other c.args.rest.now c.if-rest-ne3.true) refl

pub returns-in_err-lo : goal.returns-in_err-lo
returns-in_err-lo c =
    let vs = c.args.rest.now in
    let three = c.if-rest-ne3.false in
    let lo = c.index-rest-0.result in
    let hi = stands vs 1 lo (omega (arith, three)) in
    let limit = stands vs 2 lo (omega (arith, three)) in
    let said = scan_said-three vs lo (get_or vs 1 lo) (get_or vs 2 lo) three c.index-rest-0.is hi limit in
    let told = err_from_is_err_and c.from_residual.result c.from_residual.ensures.1 in
    rw (told.1, told.2, said, c.in_err-lo.ensures) refl

pub returns-in_err-hi : goal.returns-in_err-hi
returns-in_err-hi c =
    let vs = c.args.rest.now in
    let three = c.if-rest-ne3.false in
    let hi = c.index-rest-1.result in
    let limit = stands vs 2 hi (omega (arith, three)) in
    let said = scan_said-three vs c.index-rest-0.result hi (get_or vs 2 hi) three c.index-rest-0.is c.index-rest-1.is limit in
    let told = err_from_is_err_and c.from_residual-in_err-hi.result c.from_residual-in_err-hi.ensures.1 in
    rw (told.1, told.2, said, c.in_ok-lo.ensures, c.in_err-hi.ensures) refl

pub returns-in_err-limit : goal.returns-in_err-limit
returns-in_err-limit c =
    let said = scan_said-three c.args.rest.now _ _ _ c.if-rest-ne3.false c.index-rest-0.is c.index-rest-1.is c.index-rest-2.is in
    let told = err_from_is_err_and c.from_residual-in_err-limit.result c.from_residual-in_err-limit.ensures.1 in
    rw (told.1, told.2, said, c.in_ok-lo.ensures, c.in_ok-hi.ensures, ← c.in_err-limit.ensures) refl

pub returns-in_err-tuple_of : goal.returns-in_err-tuple_of
returns-in_err-tuple_of c =
    let said = scan_said-three c.args.rest.now _ _ _ c.if-rest-ne3.false c.index-rest-0.is c.index-rest-1.is c.index-rest-2.is in
    let told = err_from_is_err_and c.from_residual-in_err-tuple_of.result c.from_residual-in_err-tuple_of.ensures.1 in
    rw (told.1, told.2, said, c.in_ok-lo.ensures, c.in_ok-hi.ensures, ← c.in_ok-limit.ensures, ← c.in_err-tuple_of.ensures) refl

pub returns-in_err-tuple_of-2 : goal.returns-in_err-tuple_of-2
returns-in_err-tuple_of-2 c =
    let said = scan_said-three c.args.rest.now _ _ _ c.if-rest-ne3.false c.index-rest-0.is c.index-rest-1.is c.index-rest-2.is in
    let told = err_from_is_err_and c.from_residual-in_err-tuple_of-2.result c.from_residual-in_err-tuple_of-2.ensures.1 in
    let lo = c.in_ok-tuple_of.ensures in
    rw (told.1, told.2, said, c.in_ok-lo.ensures, c.in_ok-hi.ensures, ← c.in_ok-limit.ensures, ← lo, ← c.in_err-tuple_of-2.ensures) refl

pub returns : goal.returns
returns c =
    let said = scan_said-three c.args.rest.now _ _ _ c.if-rest-ne3.false c.index-rest-0.is c.index-rest-1.is c.index-rest-2.is in
    let lo = c.in_ok-tuple_of.ensures in
    let hi = c.in_ok-tuple_of-2.ensures in
    rw (said, c.in_ok-lo.ensures, c.in_ok-hi.ensures, ← c.in_ok-limit.ensures, ← lo, ← hi) refl
