use Rattle.std.proofs.Common.{List, subst, sym}
use Rattle.std.proofs.lemmas.Option.{slice_get-get_or}
use Rattle.art_scan.specs.ArtTable.Opening.{IsOpened}
use Rattle.art_scan.specs.ArtTable.declared.passes.Pass.{Pass}
use Rattle.art_handle.proofs.opening.open.Goals as goal

pub shared-requires : goal.shared-requires
shared-requires c = λ k d lt. (c.in_ok-table.ensures.opened.each k _ (slice_get-get_or c.in_ok-table.passes.items k d lt)).of

pub returns-clause-opened : goal.returns-clause-opened
returns-clause-opened c = record {
  table = c.in_ok-table.table;
  opened = subst (λ (passes : List Pass). IsOpened c.args.schema c.args.config c.in_ok-table.table passes) (sym c.in_ok-shared.ensures.passes) c.in_ok-table.ensures.opened;
  one = c.in_ok-shared.ensures.table;
}
