use Rattle.std.proofs.Common.{◌≡◌, ◌≤◌, ◌∙◌, List, ℕ, Ok, ap, rules, subst, sym, take}
use Rattle.std.specs.Str.{IsUtf8}
use Rattle.art_model.specs.declared.values.Value.TheVariants.{Text}
use Rattle.art_index_c.proofs.Texts.{text_of-none, text_of-text}
use Rattle.art_index_c.proofs.columns.text_of.Goals as goal

pub returns-in_default-from_utf8 : goal.returns-in_default-from_utf8
returns-in_default-from_utf8 c =
    let few : c.args.count ≤ 24 = search rules in
    let front : c.in-Some.bytes.now ≡ take c.args.count c.args.bytes.now = search rules in
    sym (text_of-none c.args.place c.args.count c.args.bytes.now few
    (subst (λ (bs : List ℕ). ¬ (IsUtf8 bs)) front c.in_default-from_utf8.ensures.cases.0))

pub returns-in-Some-new : goal.returns-in-Some-new
returns-in-Some-new c =
    let few : c.args.count ≤ 24 = search rules in
    let front : c.in-Some.bytes.now ≡ take c.args.count c.args.bytes.now = search rules in
    let told = c.in-Ok.ensures.cases in
    let same : c.in-Some-new.text ≡ take c.args.count c.args.bytes.now = search rules in
    ap (λ (bs : List ℕ). Ok (Text bs)) same
    ∙ sym (text_of-text c.args.place c.args.count c.args.bytes.now few (subst (λ (bs : List ℕ). IsUtf8 bs) front told.1))
