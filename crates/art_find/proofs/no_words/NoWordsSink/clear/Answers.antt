use Rattle.std.proofs.Common.{None, refl, replicate}
use Rattle.art_find.specs.ReadSets.{above_of, with_words}
use Rattle.art_find.proofs.no_words.NoWordsSink.clear.Goals as goal

pub changed-requires : goal.changed-requires
changed-requires c = let old = c.args.self.now.kept.value in (with_words (replicate 266 None) (above_of old), (refl, refl))
