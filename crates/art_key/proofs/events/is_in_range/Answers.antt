use Rattle.std.proofs.Common.{◌≡◌, ◌&&◌, ◌∙◌, ℕ, Bool, Err, IfErr, IfOk, IsOk, List, None, Ok, Option, Result, Some, ap, not, refl, subst, sym}
use Rattle.std.proofs.lemmas.Option.{none-some}
use Rattle.art_key.proofs.events.is_in_range.Goals as goal
use Rattle.art_key.specs.Bounds.{is_before}
use Rattle.art_key.specs.Histories.{is_in_range}
use Rattle.art_key.specs.Spelling.{IsSpelling}
use Rattle.art_key.specs.declared.bounds.Bound.{Bound}
use Rattle.art_key.specs.declared.bounds.Bound.TheVariants.{At}
use Rattle.art_key.specs.declared.columns.Column.{Column}
use Rattle.art_model.specs.Rows.{Tuple}

is_ok : {T E : Type 0} (r : Result T E) (o : Option E) → IfErr r (λ f. o ≡ Some f) → o ≡ None → IsOk r
is_ok (Ok x) o fault none = refl
is_ok (Err f) o fault none = absurd (none-some f (sym none ∙ fault))

at_key : (schema : List Column) (lo hi : Bound) (t : Tuple) (key : List ℕ) (out : Bool) → IsSpelling schema t.items key
    → out ≡ is_before (At (record { items = key })) lo
    → (not out && is_before (At (record { items = key })) hi) ≡ is_in_range schema lo hi t
at_key schema lo hi t key out is before =
    ap (λ b. not b && is_before (At (record { items = key })) hi) before
    ∙ ap (λ (bytes : List ℕ). not (is_before (At (record { items = bytes })) lo) && is_before (At (record { items = bytes })) hi) is.spelled

pub unwrap-requires : goal.unwrap-requires
unwrap-requires c = is_ok c.encode.result _ c.encode.ensures.fault c.requires

pub returns-then-not-before : goal.returns-then-not-before
returns-then-not-before c =
    let schema = c.args.schema.now in
    let t = c.args.tuple.now in
    let is = subst (λ r. IfOk r (λ key. IsSpelling schema t.items key.items)) c.unwrap.ensures c.encode.ensures.key in
    c.before-then-not-before.ensures ∙ at_key schema c.args.lo.now c.args.hi.now t c.unwrap.result.items _ is c.if-not-before.ensures

pub returns-else-not-before : goal.returns-else-not-before
returns-else-not-before c =
    let schema = c.args.schema.now in
    let t = c.args.tuple.now in
    let is = subst (λ r. IfOk r (λ key. IsSpelling schema t.items key.items)) c.unwrap.ensures c.encode.ensures.key in
    ap not c.if-not-before.false ∙ at_key schema c.args.lo.now c.args.hi.now t c.unwrap.result.items _ is c.if-not-before.ensures
