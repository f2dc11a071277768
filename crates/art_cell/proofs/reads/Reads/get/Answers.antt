use Rattle.art_cell.proofs.KnownLemmas.{read_known, read_unknown, read_past}
use Rattle.art_cell.proofs.reads.Reads.get.Goals as goal
use Rattle.art_cell.proofs.reads.Reads.get.Goals.{else-place-lt-WORDS-via-then-place-lt-WORDS+else-self-place-eq1, else-place-lt-WORDS-via-else-place-lt-WORDS}

pub returns-then-self-place-eq1 : goal.returns-then-self-place-eq1
returns-then-self-place-eq1 c = read_known c.self.inside.words c.self.inside.known c.args.self.now c.args.place c.self.view_is c.if-place-lt-WORDS.true c.if-self-place-eq1.true

pub returns-else-place-lt-WORDS : goal.returns-else-place-lt-WORDS
returns-else-place-lt-WORDS c =
    elim c.else-place-lt-WORDS.branch [
      | else-place-lt-WORDS-via-then-place-lt-WORDS+else-self-place-eq1 w ↦
          read_unknown c.self.inside.words c.self.inside.known c.args.self.now c.args.place c.self.view_is w.if-place-lt-WORDS.true w.if-self-place-eq1.false
      | else-place-lt-WORDS-via-else-place-lt-WORDS w ↦ read_past c.self.inside.words c.self.inside.known c.args.self.now c.args.place c.self.view_is w.if-place-lt-WORDS.false
    ]
