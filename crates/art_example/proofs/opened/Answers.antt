-- Each pass was the last of those that were left.
use Rattle.std.proofs.Common.{Some}
use Rattle.std.proofs.lemmas.List.Elements.{All-pop}
use Rattle.art_table.specs.Tables.{IsPassOf}
use Rattle.art_table.specs.declared.passes.Pass.{Pass}
use Rattle.art_example.proofs.opened.Goals as goal

pub returns-clause-third : goal.returns-clause-third
returns-clause-third c =
    let some = c.in-Some-Some-Some in
    let P : Pass → Type 0 = IsPassOf c.in_ok-table.table in
    (All-pop P _ _ (Some _) some.ensures.items c.in_ok-table.ensures.passes).1

pub returns-clause-second : goal.returns-clause-second
returns-clause-second c =
    let some = c.in-Some-Some-Some in
    let P : Pass → Type 0 = IsPassOf c.in_ok-table.table in
    let two = All-pop P _ _ (Some _) some.ensures.items c.in_ok-table.ensures.passes in
    (All-pop P _ _ (Some _) some.ensures'.items two.0).1

pub returns-clause-first : goal.returns-clause-first
returns-clause-first c =
    let some = c.in-Some-Some-Some in
    let P : Pass → Type 0 = IsPassOf c.in_ok-table.table in
    let two = All-pop P _ _ (Some _) some.ensures.items c.in_ok-table.ensures.passes in
    let one = All-pop P _ _ (Some _) some.ensures'.items two.0 in
    (All-pop P _ _ (Some _) some.ensures''.items one.0).1
