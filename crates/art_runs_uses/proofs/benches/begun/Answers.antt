use Rattle.art_runs.specs.ArtChange.Calls.{Insert, Remove}
use Rattle.art_runs_uses.proofs.benches.begun.Goals as goal

pub returns-in-Insert : goal.returns-in-Insert
returns-in-Insert g c = λ z u is. record {
  wish = Insert c.key_of.result c.in-Insert.value;
  given = 1000;
  turns = 1000;
  began = u;
  calling = c.insert.ensures.calling z u is;
}

pub returns-in-Remove : goal.returns-in-Remove
returns-in-Remove g c = λ z u is. record {
  wish = Remove c.key_of-in-Remove.result;
  given = 1000;
  turns = 1000;
  began = u;
  calling = c.remove.ensures.calling z u is;
}
