use Rattle.std.proofs.Common.{◌≡◌, length, lit<, sym, ◌∙◌, arith}
use Rattle.std.proofs.lemmas.Iterator.Consumers.{YieldsList-end}
use Rattle.std.proofs.lemmas.Iterator.Splits.{YieldsList-from_str_split}
use Rattle.std.proofs.lemmas.List.{length_push}
use Rattle.std.proofs.lemmas.List.Elements.{All-push}
use Rattle.art_key.specs.Columns.{IsColumn}
use Rattle.art_key.specs.Schemas.{parts}
use Rattle.art_key.proofs.NamedColumns.{name_after, columns_of-known, columns_of-unknown, columns_of-end}
use Rattle.art_key.proofs.schemas.columns_named.Goals as goal

pub returns-in_default-clause-names : goal.returns-in_default-clause-names
returns-in_default-clause-names c =
    let here = name_after _ _ _ c.args.text.now (cc) (cc) (cc) c.loop-name.yielded c.loop-name.yielded_by c.in-Some.name c.in-Some.is c.next.ensures.steps in
    let stops = columns_of-unknown c.loop-name.columns.items _ _ _ here (sym c.named.ensures.column ∙ c.in_default.is) in
    rw (c.len.ensures.value, c.loop-name.invariant.read) (sym c.loop-name.invariant.names ∙ stops)

pub push-requires : goal.push-requires
push-requires c =
    let here = name_after _ _ _ c.args.text.now (cc) (cc) (cc) c.loop-name.yielded c.loop-name.yielded_by c.in-Some.name c.in-Some.is c.next.ensures.steps in
    (lit< tt, omega arith)

pub loop-name-preserved : goal.loop-name-preserved
loop-name-preserved c =
    let here = name_after _ _ _ c.args.text.now (cc) (cc) (cc) c.loop-name.yielded c.loop-name.yielded_by c.in-Some.name c.in-Some.is c.next.ensures.steps in
    let next = columns_of-known c.loop-name.columns.items _ _ _ _ here (sym c.named.ensures.column ∙ c.in-Some-named.is) in
    let longer = length_push c.loop-name.yielded c.in-Some.name in
    record {
      read = omega arith;
      names = rw (c.push.ensures.items, longer) (sym next ∙ c.loop-name.invariant.names);
      known = rw c.push.ensures.items (All-push IsColumn _ _ c.loop-name.invariant.known c.in-Some-named.ensures.known);
    }

pub returns-clause-names : goal.returns-clause-names
returns-clause-names c =
    let road = YieldsList-from_str_split 44 c.args.text.now (lit< tt) (cc) (cc) (cc) in
    let all : length c.loop-name.yielded ≡ length (parts c.args.text.now) =
    (YieldsList-end road c.loop-name.yielded _ c.loop-name.yielded_by _ _ c.in-None.is c.next.ensures.steps).1 in
    sym c.loop-name.invariant.names ∙ columns_of-end c.loop-name.columns.items (parts c.args.text.now) (length c.loop-name.yielded) (omega arith)
