use Rattle.std.proofs.Common.{rules}
use Rattle.std.proofs.lemmas.Option.{slice_get-get_or}
use Rattle.art_table.proofs.tables.open.Goals as goal

pub opened-requires : goal.opened-requires
opened-requires c = search rules

pub returns-in_err-opened-clause-config : goal.returns-in_err-opened-clause-config
returns-in_err-opened-clause-config c = search rules

pub returns-clause-passes : goal.returns-clause-passes
returns-clause-passes c = λ k d below.
    (c.in_ok-opened.ensures.each k _ (slice_get-get_or _ k d below)).of
