-- How the account of a session's reads goes on read by read, and what it is at the session's end.
use Rattle.std.proofs.Common.{◌≡◌, ℕ, ◌+◌, ◌<◌, ◌≤◌, Bool, List, [], ◌∷◌, ◌++◌, length, Option, Some, None, All, refl, sym, ap, inl, inr, ◌∙◌, arith, append_assoc, append-nil}
use Rattle.std.proofs.lemmas.List.{length_push}
use Rattle.std.proofs.lemmas.List.Elements.{All-nil, All-push}
use Rattle.art_server.specs.declared.sessions.EndCause.{EndCause}
use Rattle.art_server.specs.declared.sessions.EndCause.TheVariants.{Ended, ReadFault, WriteFault, NoMemory, ReadsUsed}
use Rattle.art_server.specs.Reads.{GaveBytes, LastGave, ReadsUntil, MakesReads, EndsAtInput}
use Rattle.art_server.specs.Steps.{StopsBy}

-- so many reads were made, and each gave bytes
pub record HasCounted (count : ℕ) (old new : List (Option ℕ)) : Type 0 where
  pub made : List (Option ℕ)
  pub account : new ≡ old ++ made
  pub count_is : length made ≡ count
  pub bytes : All GaveBytes made

pub HasCounted-none : (old : List (Option ℕ)) → HasCounted 0 old old
HasCounted-none old = record { made = []; account = sym (append-nil old); count_is = refl; bytes = All-nil GaveBytes }

-- one read more
made_more : (old mid new made : List (Option ℕ)) (last : Option ℕ) → mid ≡ old ++ made → new ≡ mid ++ last ∷ []
    → new ≡ old ++ (made ++ last ∷ [])
made_more old mid new made last before after = after ∙ ap (λ (l : List (Option ℕ)). l ++ last ∷ []) before
    ∙ append_assoc old made (last ∷ [])

pub HasCounted-more : (count : ℕ) (old mid new : List (Option ℕ)) (bytes : ℕ) → HasCounted count old mid → new ≡ mid ++ Some bytes ∷ []
    → 0 < bytes → bytes ≤ 4096
    → HasCounted (count + 1) old new
HasCounted-more count old mid new bytes has after some few = record {
  made = has.made ++ Some bytes ∷ [];
  account = made_more old mid new has.made (Some bytes) has.account after;
  count_is = length_push has.made (Some bytes) ∙ ap (λ (n : ℕ). n + 1) has.count_is;
  bytes = All-push GaveBytes has.made (Some bytes) has.bytes (some, few);
}

-- ---- the end

-- the last read gave no bytes
last_read : (count : ℕ) (old mid new : List (Option ℕ)) (last : Option ℕ) (why : EndCause) → HasCounted count old mid
    → new ≡ mid ++ last ∷ [] → count + 1 ≤ 1000000
    → ((made : List (Option ℕ)) → LastGave last made → ReadsUntil why made) → MakesReads old new why
last_read count old mid new last why has after bound until =
    let same = has.count_is in
    let more = length_push has.made last in
    record {
      adds = record { made = has.made ++ last ∷ []; account = made_more old mid new has.made last has.account after; most = omega arith };
      until = until (has.made ++ last ∷ []) (record { before = has.made; split = refl; bytes = has.bytes });
    }

until_input : (why : EndCause) → EndsAtInput why → (made : List (Option ℕ)) → LastGave (Some 0) made → ReadsUntil why made
until_input Ended at made last = last
until_input ReadFault at made last = absurd at
until_input WriteFault at made last = inr last
until_input NoMemory at made last = inr last
until_input ReadsUsed at made last = absurd at

-- a read found the end of the input
pub MakesReads-finish : (count : ℕ) (old mid new : List (Option ℕ)) (why : EndCause) → HasCounted count old mid → new ≡ mid ++ Some 0 ∷ []
    → count + 1 ≤ 1000000 → EndsAtInput why → MakesReads old new why
MakesReads-finish count old mid new why has after bound at = last_read count old mid new (Some 0) why has after bound (until_input why at)

-- a read failed
pub MakesReads-fault : (count : ℕ) (old mid new : List (Option ℕ)) → HasCounted count old mid → new ≡ mid ++ None ∷ [] → count + 1 ≤ 1000000
    → MakesReads old new ReadFault
MakesReads-fault count old mid new has after bound = last_read count old mid new None ReadFault has after bound (λ made last. last)

until_stop : (why : EndCause) (pending : Bool) → StopsBy why pending → (made : List (Option ℕ)) → All GaveBytes made → ReadsUntil why made
until_stop Ended pending stops made all = absurd stops
until_stop ReadFault pending stops made all = absurd stops
until_stop WriteFault pending stops made all = inl all
until_stop NoMemory pending stops made all = inl all
until_stop ReadsUsed pending stops made all = absurd stops

-- a line stopped it after a read
pub MakesReads-stop : (count : ℕ) (old new : List (Option ℕ)) (why : EndCause) (pending : Bool) → HasCounted count old new
    → count ≤ 1000000 → StopsBy why pending → MakesReads old new why
MakesReads-stop count old new why pending has bound stops =
    let same = has.count_is in
    record {
      adds = record { made = has.made; account = has.account; most = omega arith };
      until = until_stop why pending stops has.made has.bytes;
    }

-- the reads are used up
pub MakesReads-used : (count : ℕ) (old new : List (Option ℕ)) → HasCounted count old new → count ≡ 1000000 → MakesReads old new ReadsUsed
MakesReads-used count old new has used =
    let same = has.count_is in
    record { adds = record { made = has.made; account = has.account; most = omega arith }; until = (has.bytes, same ∙ used) }
