-- A validation takes no failure back, and a change that has come further is begun.
use Rattle.std.proofs.Common.{◌≡◌, ◌<◌, ◌≤◌, ℕ, false, refl, arith}
use Rattle.std.proofs.lemmas.Bool.{ne_eqb}
use Rattle.art_plan.specs.Apply.{is_begun}
use Rattle.art_attempt.specs.Naming as naming
use Rattle.art_attempt.specs.Validate.{failures_of}
use Rattle.art_attempt.specs.declared.naming.Named.TheVariants as named
use Rattle.art_attempt.specs.declared.naming.Naming.{Naming}
use Rattle.art_attempt.specs.declared.naming.Naming.TheVariants as names
use Rattle.art_attempt.specs.declared.validate.Validate.{Validate}
use Rattle.art_attempt.specs.declared.validate.Validate.TheVariants as checks
use Rattle.art_attempt.specs.declared.validate.Validated.TheVariants as validated
use Rattle.art_plan.specs.Apply.{most_steps}
use Rattle.art_plan.specs.declared.apply.Apply.{Apply}
use Rattle.art_plan.specs.declared.apply.Apply.TheVariants.{Upgrading, Claiming, Filling, Writing, Committing, Releasing, ReleasingNode, GivingUp, Ended}

pub no_fewer : (m : Validate) (n : ℕ) → n ≤ failures_of m n
no_fewer (checks.Read role r) n = omega arith
no_fewer (checks.Header r) n = omega arith
no_fewer (checks.Check role) n = omega arith
no_fewer checks.Torn n = omega arith
no_fewer (checks.Ended validated.Unchanged) n = omega arith
no_fewer (checks.Ended validated.Changed) n = omega arith

pub no_fewer_named : (m : Naming) (n : ℕ) → n ≤ naming.failures_of m n
no_fewer_named (names.Begin q) n = omega arith
no_fewer_named (names.Check x) n = omega arith
no_fewer_named (names.Ended (named.Unchanged x)) n = omega arith
no_fewer_named (names.Ended named.Changed) n = omega arith

pub begun_none : (m : Apply) → 0 < most_steps m → is_begun m ≡ false
begun_none (Upgrading i) more = ne_eqb i 0 (λ e. absurd (omega (arith, e, more)))
begun_none (Claiming b) more = refl
begun_none (Filling b place) more = refl
begun_none (Writing j) more = refl
begun_none Committing more = refl
begun_none (Releasing i) more = refl
begun_none (ReleasingNode b) more = refl
begun_none (GivingUp locked released e) more = refl
begun_none (Ended r) more = refl
