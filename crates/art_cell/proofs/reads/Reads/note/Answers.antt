use Rattle.std.proofs.Common.{ap, ◌∙◌, arith}
use Rattle.std.specs.Prelude.{set, Some}
use Rattle.art_cell.proofs.KnownLemmas.{one_more_known}
use Rattle.art_cell.proofs.reads.Reads.note.Goals as goal

pub returns : goal.returns
returns c =
    let place = c.args.place in
    one_more_known c.self.inside.words c.self.inside.known place c.args.word (omega arith) (omega arith) (omega arith)
    ∙ ap (λ xs. set xs place (Some c.args.word)) c.self.view_is
