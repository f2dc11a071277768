use Rattle.std.proofs.Common.{◌≡◌, ◌≤◌, ◌-◌, ℕ, List, Some, length, take, drop, sym, ap, ◌∙◌, arith}
use Rattle.std.specs.Option.{option_map}
use Rattle.art_key.specs.Columns.{kind_coding}
use Rattle.art_key.specs.Kinds.{Coding, complement}
use Rattle.art_key.proofs.ColumnLaws.{kind_law}
use Rattle.art_key.proofs.Descending.{first_complements, none_in_front, rest_fits, some_in_front, take_behind}
use Rattle.art_key.proofs.Widths.{width-le}
use Rattle.art_key.proofs.columns.Kind.front_reversed.Goals as goal

pub returns-in_err-value : goal.returns-in_err-value
returns-in_err-value c =
    let k : Coding = kind_coding c.args.self in
    let first = first_complements c.args.bytes.now c.as_slice.ensures.value c.append_complements.ensures c.new-complements.ensures c.min.ensures in
    let wide : (kind_coding c.args.self).width ≤ 64 = omega (arith, width-le c.args.self c.requires) in
    let none = ap k.front (sym first) ∙ sym c.in_err-value.ensures in
    ap (option_map (λ x. (x.0, x.1.now))) c.from_residual.ensures
    ∙ sym (none_in_front k (kind_law c.args.self) 64 c.args.bytes.now wide none)

pub overflow_sub-spelled : goal.overflow_sub-spelled
overflow_sub-spelled c =
    let k : Coding = kind_coding c.args.self in
    let first = first_complements c.args.bytes.now c.as_slice.ensures.value c.append_complements.ensures c.new-complements.ensures c.min.ensures in
    let wide : (kind_coding c.args.self).width ≤ 64 = omega (arith, width-le c.args.self c.requires) in
    let some = ap k.front (sym first) ∙ sym c.in_ok-value.ensures in
    let fits = rest_fits k (kind_law c.args.self) 64 c.args.bytes.now wide c.in_ok-value.value c.in_ok-value.rest.now some in
    omega (arith, fits, c.len.ensures.value, ap length first, ap length c.as_slice.ensures.value)

pub returns : goal.returns
returns c =
    let k : Coding = kind_coding c.args.self in
    let first = first_complements c.args.bytes.now c.as_slice.ensures.value c.append_complements.ensures c.new-complements.ensures c.min.ensures in
    let wide : (kind_coding c.args.self).width ≤ 64 = omega (arith, width-le c.args.self c.requires) in
    let bytes : List ℕ = c.args.bytes.now in
    let some = ap k.front (sym first) ∙ sym c.in_ok-value.ensures in
    let long : c.len.result ≡ length (complement (take 64 bytes)) = c.len.ensures.value ∙ ap length (sym c.as_slice.ensures.value ∙ first) in
    let spelled : ℕ = c.len.result - length c.in_ok-value.rest.now in
    ap (λ (l : List ℕ). Some (c.in_ok-value.value, l)) (take_behind spelled bytes ∙ ap (λ n. drop (n - length c.in_ok-value.rest.now) bytes) long)
    ∙ sym (some_in_front k (kind_law c.args.self) 64 bytes wide c.in_ok-value.value c.in_ok-value.rest.now some)
