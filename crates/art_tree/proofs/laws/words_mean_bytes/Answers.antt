use Rattle.art_tree.proofs.ByteTexts.{key_bytes, prefix_bytes, path_bytes}
use Rattle.art_tree.proofs.laws.words_mean_bytes.Goals as goal

pub returns-clause-keys : goal.returns-clause-keys
returns-clause-keys c = key_bytes

pub returns-clause-prefixes : goal.returns-clause-prefixes
returns-clause-prefixes c = prefix_bytes

pub returns-clause-paths : goal.returns-clause-paths
returns-clause-paths c = path_bytes
