use Rattle.art_key.proofs.TupleLaws.{read_back, read_is_spelled, are_bytes, are_narrow}
use Rattle.art_key.proofs.laws.spellings_are_read_back.Goals as goal

pub returns-clause-back : goal.returns-clause-back
returns-clause-back c = read_back

pub returns-clause-exact : goal.returns-clause-exact
returns-clause-exact c = read_is_spelled

pub returns-clause-bytes : goal.returns-clause-bytes
returns-clause-bytes c = are_bytes

pub returns-clause-narrow : goal.returns-clause-narrow
returns-clause-narrow c = are_narrow
