use Rattle.std.proofs.Common.{◌≡◌, ◌∙◌, rules, ap, subst, sym, List, [], ◌∷◌, ◌++◌, map}
use Rattle.std.specs.List.{All}
use Rattle.std.specs.Arc.{arc_value}
use Rattle.std.proofs.lemmas.List.{map-append}
use Rattle.std.proofs.lemmas.List.Elements.{All-head, All-nil, All-push, All-rest}
use Rattle.art_handle.specs.Handles.{IsOfItsTable, pass_of, table_of}
use Rattle.art_handle.specs.declared.handles.Handle.{Handle}
use Rattle.art_scan.specs.ArtTable.Tables.{IsPassOf}
use Rattle.art_scan.specs.ArtTable.declared.passes.Pass.{Pass}
use Rattle.art_scan.specs.ArtTable.declared.tables.Table.{Table}
use Rattle.art_handle.proofs.opening.shared.Goals as goal

pub loop-pass-init : goal.loop-pass-init
loop-pass-init c =
    let none = c.in_ok-handles.ensures.items in
    let Same : Handle → Type 0 = λ h. table_of h ≡ arc_value c.in_ok-table.table in
    record {
      own = subst (All IsOfItsTable) (sym none) (All-nil IsOfItsTable);
      passes = search (rules, none);
      table = subst (All Same) (sym none) (All-nil Same);
      left = subst (All (IsPassOf (arc_value c.in_ok-table.table))) (sym c.into_iter-pass-iterator.ensures.into_iter_gives.0)
          (subst (λ (t : Table). All (IsPassOf t) c.args.passes.items) (sym c.in_ok-table.ensures.ok) c.requires);
    }

pub loop-pass-preserved : goal.loop-pass-preserved
loop-pass-preserved c =
    let i = c.loop-pass.invariant in
    let more = c.in_ok-push.ensures.items in
    let before = c.loop-pass.handles.items in
    let rest = c.next.new.self.rest.items in
    let table : Table = arc_value c.in_ok-table.table in
    let Same : Handle → Type 0 = λ h. table_of h ≡ table in
    let handle : Handle = record { table = c.in_ok-table-2.table; pass = c.in-Some.pass } in
    let left : All (IsPassOf table) (c.in-Some.pass ∷ rest) = subst (All (IsPassOf table)) c.in-Some.ensures.steps.0 i.left in
    let own : IsOfItsTable handle = subst (λ (t : Table). IsPassOf t c.in-Some.pass) (sym c.in_ok-table-2.ensures) (All-head (IsPassOf table) c.in-Some.pass rest left) in
    record {
      own = subst (All IsOfItsTable) (sym more) (All-push IsOfItsTable before handle i.own own);
      passes = ap (map pass_of) more ∙ (map-append pass_of before (handle ∷ []) ∙ ap (λ (ps : List Pass). ps ++ c.in-Some.pass ∷ []) i.passes);
      table = subst (All Same) (sym more) (All-push Same before handle i.table c.in_ok-table-2.ensures);
      left = All-rest (IsPassOf table) c.in-Some.pass rest _ c.in-Some.ensures.steps.0 i.left;
    }
