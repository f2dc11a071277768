-- What reads took, read by read.
use Rattle.std.proofs.Common.{◌≡◌, ℕ, ◌+◌, ◌*◌, ◌≤◌, List, [], length, Option, subst, arith, append-nil, length-append}
use Rattle.std.specs.Io.KnownBytes.{Consumes}
use Rattle.std.proofs.KnownBytes.{Consumes-nil, Consumes-trans, Consumes-kept}
use Rattle.art_server.specs.Lines.{ReadFails, ReadsBytes, ReadsEnd}
use Rattle.art_server.specs.Streams.{whole_lines}
use Rattle.art_server.proofs.StreamLaws.{length-whole_lines}

-- so many reads gave these bytes, each 1 to 4,096 of them
pub record HasRead (reads : ℕ) (left left_after : Option (List ℕ)) (taken : List ℕ) : Type 0 where
  pub consumes : Consumes left left_after taken
  pub at_least : reads ≤ length taken
  pub at_most : length taken ≤ 4096 * reads

pub HasRead-none : (left : Option (List ℕ)) → HasRead 0 left left []
HasRead-none left = record { consumes = Consumes-nil left; at_least = omega arith; at_most = omega arith }

pub lines-HasRead : (reads : ℕ) (left left_after : Option (List ℕ)) (taken : List ℕ) → HasRead reads left left_after taken
    → length (whole_lines taken) ≤ 4096 * reads
lines-HasRead reads left left_after taken has =
    let most = has.at_most in
    omega (arith, length-whole_lines taken)

module _ (reads : ℕ) (left left_mid left_after : Option (List ℕ)) (mid new : List (Option ℕ)) (taken taken_after : List ℕ)
    (has : HasRead reads left left_mid taken) where
  -- one read more
  pub HasRead-more : ReadsBytes left_mid left_after mid new taken taken_after → HasRead (reads + 1) left left_after taken_after
  HasRead-more read =
      let least = has.at_least in
      let most = has.at_most in
      let some = read.some in
      let few = read.few in
      let grown : length taken_after ≡ length taken + length read.bytes = rw read.taken_is (length-append taken read.bytes) in
      record {
        consumes = rw read.taken_is (Consumes-trans left left_mid left_after taken read.bytes has.consumes read.consumes);
        at_least = omega arith;
        at_most = omega arith;
      }

  same_taken : taken_after ≡ taken → Consumes left left_after taken → HasRead reads left left_after taken_after
  same_taken same consumes = rw same (record { consumes = consumes; at_least = has.at_least; at_most = has.at_most })

  -- the input ended
  pub HasRead-end : ReadsEnd left_mid left_after mid new taken taken_after → HasRead reads left left_after taken_after
  HasRead-end read =
      same_taken read.taken_is
      (subst (Consumes left left_after) (append-nil taken) (Consumes-trans left left_mid left_after taken [] has.consumes read.consumes))

  -- a read failed
  pub HasRead-fault : ReadFails left_mid left_after mid new taken taken_after → HasRead reads left left_after taken_after
  HasRead-fault read = same_taken read.taken_is (Consumes-kept left left_mid left_after taken has.consumes read.keeps)
