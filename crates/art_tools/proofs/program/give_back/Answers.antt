use Rattle.std.proofs.Common.{List, [], ◌∷◌, ◌++◌, sym, ap, subst, ◌∙◌}
use Rattle.art_server.specs.ArtTable.Closing.{AreAllPasses, IsClosed}
use Rattle.art_server.specs.ArtTable.Tables.{sizes_in}
use Rattle.art_server.specs.ArtTable.declared.passes.Pass.{Pass}
use Rattle.art_tools.proofs.Passes.{no_memory, one_is_all}
use Rattle.art_tools.proofs.program.give_back.Goals as goal

pub returns-clause-memory : goal.returns-clause-memory
returns-clause-memory c =
    let t = c.args.table in
    let q = c.args.pass in
    let here = c.in_ok-push.ensures.items ∙ ap (λ (l : List Pass). l ++ q ∷ []) c.requires.room in
    let all = subst (AreAllPasses (sizes_in t).passes) (sym here) (one_is_all t q c.requires.one c.requires.pass.1) in
    c.from.ensures ∙ no_memory t _ _ all c.in-Err.ensures.why

pub returns-in-Ok-clause-closed : goal.returns-in-Ok-clause-closed
returns-in-Ok-clause-closed c =
    let here = c.in_ok-push.ensures.items ∙ ap (λ (l : List Pass). l ++ c.args.pass ∷ []) c.requires.room in
    (c.in-Ok.field-0, subst (λ (l : List Pass). IsClosed c.args.table l c.in-Ok.field-0) here c.in-Ok.ensures.closed)
