use Rattle.std.proofs.Common.{List, subst, sym}
use Rattle.std.specs.List.{All}
use Rattle.art_handle.specs.Handles.{AreOpened, IsOfItsTable}
use Rattle.art_handle.specs.declared.handles.Handle.{Handle}
use Rattle.art_index_c.proofs.opening.open_boxed.Goals as goal

pub returns-clause-opened : goal.returns-clause-opened
returns-clause-opened c =
    subst (λ (hs : List Handle). AreOpened c.args.schema c.args.config hs) (sym c.in_ok-boxed.ensures) c.in_ok-handles.ensures.opened

pub returns-clause-own : goal.returns-clause-own
returns-clause-own c = subst (λ (hs : List Handle). All IsOfItsTable hs) (sym c.in_ok-boxed.ensures) c.in_ok-handles.ensures.own
