use Rattle.std.proofs.Common.{◌<◌, Option, rules, sym, subst}
use Rattle.art_cell.specs.Reads.{NextTells}
use Rattle.art_cell.specs.Words.{child_of}
use Rattle.art_cell.specs.declared.node_kinds.Entry.{Entry}
use Rattle.art_cell.specs.declared.node_kinds.NextProbe.{NextProbe}
use Rattle.art_plan.specs.ChooseRemove.Others.{IsLeast}
use Rattle.art_plan.proofs.BesideWords.{least_told, none_told}
use Rattle.art_plan.proofs.choose_remove.least.Goals as goal

pub returns-in-Entry-clause-least : goal.returns-in-Entry-clause-least
returns-in-Entry-clause-least c = λ w all.
    let k = c.args.layout in
    let low = c.args.low in
    let small : c.in-Entry.entry.byte < 256 = search rules in
    let told = subst (λ (r : NextProbe). NextTells (child_of k w) low r) c.in-Entry.is (c.at_least.ensures.tells w all.body all.agrees) in
    subst (λ (r : Option Entry). IsLeast (child_of k w) low r) (sym c.then_some.ensures)
    (least_told k c.args.reads.now low w all c.in-Entry.entry c.is_child.result small told c.is_child.ensures.1)

pub returns-in-Need : goal.returns-in-Need
returns-in-Need c = record {
  low = tt;
  read = tt;
  least = λ w all. none_told c.args.layout c.args.reads.now c.args.low w all c.at_least.result c.in-Need.is c.at_least.ensures.needs (c.at_least.ensures.tells w all.body all.agrees);
}
