use Rattle.std.proofs.Common.{List, ◌++◌, ℕ, ap, ◌∙◌, arith, append-nil}
use Rattle.std.proofs.lemmas.List.{drop_all}
use Rattle.art_server.proofs.texts.put_word.Goals as goal

pub returns-clause-text : goal.returns-clause-text
returns-clause-text c =
    let word = c.args.word.now in
    c.put_before.ensures.written
    ∙ ap (λ (l : List ℕ). word ++ l) (drop_all 64 c.args.room.now (omega arith))
    ∙ append-nil word
