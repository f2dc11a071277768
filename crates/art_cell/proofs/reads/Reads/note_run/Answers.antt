use Rattle.std.proofs.Common.{◌+◌, ◌-◌, ◌≤◌, ℕ, List, Option, length, arith, subst, sym}
use borrow.Rule.Slice.PartMut.{put_mid}
use Rattle.art_cell.specs.KnownWords.{known_words}
use Rattle.art_cell.specs.Reads.{AreNoted}
use Rattle.art_cell.proofs.KnownLemmas.{run_noted, with_bits}
use Rattle.art_cell.proofs.Parts.{above_part, below_part, in_part}
use Rattle.art_cell.proofs.reads.Reads.note_run.Goals as goal

pub returns : goal.returns
returns c =
    let s = c.self.inside in
    let run = c.args.words.now in
    let place = c.args.place in
    let k = place + length run - place in
    let few = c.requires.few in
    let room : place + length run ≤ length s.words = omega (arith, few, c.self.told.0) in
    let noted = run_noted s.words (put_mid place k s.words run) s.known run place c.mask.result c.requires.within few (omega (arith, c.requires.some, c.self.told.1)) c.mask.ensures
    (in_part s.words run place k (omega arith) room) (below_part s.words run place k (omega arith) room) (above_part s.words run place k (omega arith) room) in
    subst (λ (old : List (Option ℕ)). AreNoted place run old (known_words (put_mid place k s.words c.copy_from_slice.new.self) (with_bits s.known place c.mask.result))) c.self.view_is
    (subst (λ (ys : List ℕ). AreNoted place run (known_words s.words s.known) (known_words (put_mid place k s.words ys) (with_bits s.known place c.mask.result))) (sym c.copy_from_slice.ensures.after) noted)
