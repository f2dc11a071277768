-- Options one of whose values is no row of digits.
use Rattle.std.proofs.Common.{◌≡◌, Bool, true, false, ◌&&◌, if◌then◌else◌, List, [], ◌∷◌, ◌++◌, Result, Ok, Err, IsErrAnd, MatchResult, refl, ap}
use Rattle.std.specs.List.{list_all}
use Rattle.clap.specs.Kinds.{Kinds}
use Rattle.clap.specs.Words.{Text}
use Rattle.clap.specs.declared.error.kind.ErrorKind.TheVariants.{ValueValidation}
use Rattle.art_tools.specs.Options.{Given, has_digits, numbers_fault}

-- a result that is an error is one for this reason
pub told_for : {A E : Type 0} (r : Result A E) (Q : E → Type 0) (P : A → Type 0) (Why : Type 0) → IsErrAnd r Q → Why
    → MatchResult r P (λ e. Why)
told_for (Ok a) Q P Why is why = absurd is
told_for (Err e) Q P Why is why = why

module _ (given : Given) where
  abbrev all : List Text → Bool
  all names = list_all (has_digits given) names

  named : (names : List Text) → all names ≡ false → numbers_fault names given ≡ ValueValidation ∷ []
  named names fails = ap (λ (b : Bool). if b then [] else ValueValidation ∷ []) fails

  none_named : (b : Bool) → ◌≡◌ {A = Kinds} (if b then [] else ValueValidation ∷ []) (ValueValidation ∷ []) → b ≡ false
  none_named true is = cc
  none_named false is = refl

  still : (b : Bool) (rest others : Bool) → (b && rest) ≡ false → (rest ≡ false → others ≡ false) → (b && others) ≡ false
  still true rest others fails later = later fails
  still false rest others fails later = refl

  anyway : (b others : Bool) → others ≡ false → (b && others) ≡ false
  anyway true others fails = fails
  anyway false others fails = refl

  first_fail : (names more : List Text) → all names ≡ false → all (names ++ more) ≡ false
  first_fail [] more fails = cc
  first_fail (name ∷ names) more fails =
      still (has_digits given name) (all names) (all (names ++ more)) fails (λ later. first_fail names more later)

  one_fail : (names more : List Text) (name : Text) → has_digits given name ≡ false → all (names ++ name ∷ more) ≡ false
  one_fail [] more name fails = ap (λ (b : Bool). b && all more) fails
  one_fail (first ∷ names) more name fails =
      anyway (has_digits given first) (all (names ++ name ∷ more)) (one_fail names more name fails)

  -- among the first of them, or at one of them
  pub fault_before : (names more : List Text) → numbers_fault names given ≡ ValueValidation ∷ []
      → numbers_fault (names ++ more) given ≡ ValueValidation ∷ []
  fault_before names more fault = named (names ++ more) (first_fail names more (none_named (all names) fault))

  pub fault_at : (names more : List Text) (name : Text) → has_digits given name ≡ false
      → numbers_fault (names ++ name ∷ more) given ≡ ValueValidation ∷ []
  fault_at names more name fails = named (names ++ name ∷ more) (one_fail names more name fails)
