use Rattle.std.proofs.Common.{◌≡◌, ◌∙◌, List, length, rules, subst, sym}
use Rattle.art_server.specs.ArtTable.Closing.{IsClosed}
use Rattle.art_server.specs.ArtTable.Tables.{sizes_in}
use Rattle.art_server.specs.ArtTable.declared.passes.Pass.{Pass}
use Rattle.art_schedule.specs.Schedules.{ComeBack}
use Rattle.art_tools.proofs.Passes.{all_here, all_of, back_in_place, no_memory}
use Rattle.art_tools.proofs.schedules.close_all.Goals as goal

pub close-requires : goal.close-requires
close-requires c =
    let t = c.args.table in
    let items : List Pass = c.in_ok-passes.passes.items in
    let long : length items ≡ 8 = search rules in
    let (opened, eight, come) = c.requires.passes in
    all_of t items (back_in_place t opened items eight long (subst (ComeBack t opened) (sym c.in_ok-passes.ensures.items) come))

pub returns-in-Ok-clause-closed : goal.returns-in-Ok-clause-closed
returns-in-Ok-clause-closed c =
    let got = c.in-Ok.field-0 in
    (got, subst (λ (l : List Pass). IsClosed c.args.table l got) c.in_ok-passes.ensures.items c.in-Ok.ensures.closed)

pub returns-clause-memory : goal.returns-clause-memory
returns-clause-memory c =
    let t = c.args.table in
    let items : List Pass = c.in_ok-passes.passes.items in
    let long : length items ≡ 8 = search rules in
    let (opened, eight, come) = c.requires.passes in
    let places = back_in_place t opened items eight long (subst (ComeBack t opened) (sym c.in_ok-passes.ensures.items) come) in
    c.from.ensures ∙ no_memory t items _ (all_here t items places (sizes_in t).passes (long ∙ sym c.requires.eight)) c.in-Err.ensures.why
