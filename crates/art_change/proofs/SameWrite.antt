-- A write is the same before its first step, and after the steps of one stage and of the next.
use Rattle.std.proofs.Common.{◌∙◌, refl}
use Rattle.art_attempt.specs.declared.attempts.Room.{Room}
use Rattle.art_change.specs.Writes.{IsSameWrite}
use Rattle.art_change.specs.declared.writes.Write.{Write}

pub same_still : (m : Write) (r : Room) → IsSameWrite m r m r
same_still m r = record {
  job = refl;
  turns = refl;
  key = record { key = refl; value = refl };
  refuses = λ will. will;
  apart = λ is. is;
}

pub same_then : (m : Write) (r : Room) (n : Write) (s : Room) (o : Write) (t : Room) → IsSameWrite m r n s → IsSameWrite n s o t → IsSameWrite m r o t
same_then m r n s o t one two = record {
  job = two.job ∙ one.job;
  turns = two.turns ∙ one.turns;
  key = record { key = two.key.key ∙ one.key.key; value = two.key.value ∙ one.key.value };
  refuses = λ will. two.refuses (one.refuses will);
  apart = λ is. two.apart (one.apart is);
}
