-- The fault that stands for an error of clap has its kind, and what explains one reading of the words explains them all.
use Rattle.std.proofs.Common.{◌≡◌, [], ◌∷◌, Result, Ok, Err, IsErrAnd, MatchResult, subst, sym, refl, inl, ⊎_elim}
use Rattle.clap.specs.Kinds.{HasKind, IsAmong, Kinds, or_else}
use Rattle.clap.specs.Values.{kind_of}
use Rattle.clap.specs.declared.error.Error.{Error}
use Rattle.clap.specs.declared.error.kind.ErrorKind.{ErrorKind}
use Rattle.clap.specs.declared.error.kind.ErrorKind.TheVariants.{OutOfMemory, ValueValidation}
use Rattle.art_tools.specs.declared.settings.SettingsFault.{SettingsFault}
use Rattle.art_tools.specs.Faults.{Explains, fault_by, fault_from}

among_more : (k : ErrorKind) (kinds more : Kinds) → IsAmong k kinds → IsAmong k (or_else kinds more)
among_more k [] more among = absurd among
among_more k (x ∷ xs) more among = among

explains_kind : (kinds more : Kinds) (fits : Type 0) (e : Error) (k : ErrorKind) → kind_of e ≡ k → HasKind kinds e
    → Explains (or_else kinds more) fits (fault_by k e)
explains_kind kinds more fits e OutOfMemory is h = tt
explains_kind kinds more fits e k is h = ⊎_elim (λ m. cc) (λ among. among_more (kind_of e) kinds more among) h

-- `?` passes clap's error on as its fault
pub refused_up : {T : Type 0} (r : Result T SettingsFault) (e : Error) (P : T → Type 0) (kinds more : Kinds) (fits : Type 0)
    → IsErrAnd r (λ f. f ≡ fault_from e) → HasKind kinds e → MatchResult r P (Explains (or_else kinds more) fits)
refused_up (Ok x) e P kinds more fits is h = absurd is
refused_up (Err f) e P kinds more fits is h = subst (Explains (or_else kinds more) fits) (sym is) (explains_kind kinds more fits e (kind_of e) refl h)

-- clap's error of a value explains the value
pub value_explained : (e : Error) (kinds : Kinds) (fits : Type 0) → kinds ≡ ValueValidation ∷ [] → kind_of e ≡ ValueValidation
    → Explains kinds fits (fault_from e)
value_explained e kinds fits are is =
    subst (λ k. Explains k fits (fault_from e)) (sym are) (subst (λ k. Explains (ValueValidation ∷ []) fits (fault_by k e)) (sym is) (inl is))

-- where clap finds nothing wrong, the values explain the fault
pub values_explain : (kinds more : Kinds) (fits : Type 0) (f : SettingsFault) → kinds ≡ [] → Explains more fits f → Explains (or_else kinds more) fits f
values_explain kinds more fits f none h = subst (λ k. Explains (or_else k more) fits f) (sym none) h

pub values_right : (kinds more : Kinds) → kinds ≡ [] → more ≡ [] → or_else kinds more ≡ []
values_right kinds more none right = subst (λ k. or_else k more ≡ []) (sym none) right

-- `?` passes a fault on as it is
pub passed_up : {T : Type 0} (r : Result T SettingsFault) (f : SettingsFault) (P : T → Type 0) (kinds : Kinds) (fits : Type 0)
    → IsErrAnd r (λ g. g ≡ f) → Explains kinds fits f → MatchResult r P (Explains kinds fits)
passed_up (Ok x) f P kinds fits is h = absurd is
passed_up (Err g) f P kinds fits is h = subst (Explains kinds fits) (sym is) h
