use Rattle.std.proofs.Common.{Some, refl, set}
use Rattle.art_find.specs.ReadSets.{above_of, node_of, with_words}
use Rattle.art_find.proofs.no_words.NoWordsSink.note.Goals as goal

pub changed-requires : goal.changed-requires
changed-requires c = let old = c.args.self.now.kept.value in (with_words (set (node_of old) c.args.place (Some c.args.word)) (above_of old), (refl, refl))
