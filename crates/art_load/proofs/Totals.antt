-- How many replies were counted.
use Rattle.std.proofs.Common.{subst, ◌≡◌, ℕ, zero, suc, ◌+◌, [], ◌∷◌, ◌++◌, length, length-append, refl, arith}
use Rattle.art_load.specs.Commands.{load_command, load_commands}
use Rattle.art_load.specs.Counts.{added, one_of, total_of}
use Rattle.art_load.specs.declared.counts.Counts.{Counts}
use Rattle.art_load.specs.declared.counts.Kind.{Kind}
use Rattle.art_load.specs.declared.counts.Kind.TheVariants as kind

pub one_more : (c : Counts) (k : Kind) → total_of (added c (one_of k)) ≡ total_of c + 1
one_more c kind.Inserted = omega arith
one_more c kind.Present = omega arith
one_more c kind.Removed = omega arith
one_more c kind.Absent = omega arith
one_more c kind.Found = omega arith
one_more c kind.Refused = omega arith

pub added_total : (c d : Counts) → total_of (added c d) ≡ total_of c + total_of d
added_total c d = omega arith

pub as_many : (seed keys thread n : ℕ) → length (load_commands seed keys thread n) ≡ n
as_many seed keys thread zero = refl
as_many seed keys thread (suc n) =
    let rest = as_many seed keys thread n in
    let long = length-append (load_commands seed keys thread n) (load_command seed keys thread n ∷ []) in
    omega (arith, rest, long)

pub commands_more : (seed keys thread n : ℕ)
    → load_commands seed keys thread (n + 1) ≡ load_commands seed keys thread n ++ load_command seed keys thread n ∷ []
commands_more seed keys thread n =
    let next : suc n ≡ n + 1 = omega arith in
    subst (λ (m : ℕ). load_commands seed keys thread m ≡ load_commands seed keys thread n ++ load_command seed keys thread n ∷ []) next refl
