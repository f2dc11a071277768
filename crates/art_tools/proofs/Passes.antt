-- A table of one pass, and one of eight.
use Rattle.std.proofs.Common.{◌≡◌, ℕ, ◌<◌, List, [], ◌∷◌, ◌++◌, length, length-append, zero, suc, Option, Some, inl, inr, refl, sym, ap, subst, arith, ◌∙◌}
use Rattle.std.proofs.lemmas.List.{nil_from_length}
use Rattle.std.proofs.lemmas.List.Elements.{All-cons, All-nil}
use Rattle.std.proofs.lemmas.Option.{slice_get-get_or}
use Rattle.std.specs.List.{slice_get}
use Rattle.std.specs.Option.{option_to_list}
use Rattle.art_key.specs.declared.columns.Column.{Column}
use Rattle.art_schedule.specs.Schedules.{ComeBack}
use Rattle.art_shared.specs.SamePass.{SamePass}
use Rattle.art_step.specs.Views.{Member}
use Rattle.art_server.specs.ArtTable.Closing.{AreAllPasses, Explains}
use Rattle.art_server.specs.ArtTable.Opening.{IsNew, IsOpened}
use Rattle.art_server.specs.ArtTable.Tables.{AreOf, IsPassOf, number_of, sizes_in}
use Rattle.art_server.specs.ArtTable.declared.closing.CloseRefusal.{CloseRefusal}
use Rattle.art_server.specs.ArtTable.declared.closing.CloseRefusal.TheVariants as close
use Rattle.art_server.specs.ArtTable.declared.configs.Config.{Config}
use Rattle.art_server.specs.ArtTable.declared.passes.Pass.{Pass}
use Rattle.art_server.specs.ArtTable.declared.tables.Table.{Table}
use Rattle.art_workers.specs.ArtSessions.Laws.{IsOnlyPass}
use Rattle.art_step.specs.declared.views.Sizes.{Sizes}
use Rattle.art_tools.specs.Outputs.{of_one_pass}
use Rattle.art_tools.specs.Schedules.{AreEight, AreInPlace}
use Rattle.art_tools.specs.Statuses.{unclosed}
use Rattle.art_tools.specs.declared.run_faults.RunFault.TheVariants.{NoMemory}

-- ---- all passes of the table

pub one_of : (t : Table) (q : Pass) → IsPassOf t q → AreOf t (q ∷ [])
one_of t q is = All-cons (IsPassOf t) q [] is (All-nil (IsPassOf t))

pub one_is_all : (t : Table) (q : Pass) → (sizes_in t).passes ≡ 1 → number_of q ≡ 0 → AreAllPasses (sizes_in t).passes (q ∷ [])
one_is_all t q one number = (sym one, λ n below. (q, inl refl, let few = below in omega (arith, one, number, few)))

-- with all passes only memory can be missing
pub no_memory : (table : Table) (passes : List Pass) (why : CloseRefusal) → AreAllPasses (sizes_in table).passes passes → Explains table passes why → unclosed why ≡ NoMemory
no_memory table passes close.PassesMissing all why = absurd (why all)
no_memory table passes close.NoMemory all why = refl

-- ---- as it was opened

last_alone : (rest : List Pass) (q : Pass) (passes : List Pass) → passes ≡ rest ++ q ∷ [] → length passes ≡ 1 → rest ≡ []
last_alone rest q passes split one =
    let whole = ap (length {A = Pass}) split in
    let parts = length-append rest (q ∷ []) in
    nil_from_length rest (omega (arith, whole, parts, one))

-- the last of one pass is that pass
pub only_pass : (passes rest : List Pass) (o : Option Pass) (q : Pass) → passes ≡ rest ++ option_to_list o → o ≡ Some q → length passes ≡ 1
    → passes ≡ q ∷ []
only_pass passes rest o q split is one =
    let whole : passes ≡ rest ++ q ∷ [] = split ∙ ap (λ (x : Option Pass). rest ++ option_to_list x) is in
    whole ∙ ap (λ (l : List Pass). l ++ q ∷ []) (last_alone rest q passes whole one)

pub new_pass : (schema : List Column) (config : Config) (t : Table) (passes : List Pass) (q : Pass) → IsOpened schema config t passes → passes ≡ q ∷ [] → IsNew t 0 q
new_pass schema config t passes q opened is = opened.each 0 q (ap (λ (l : List Pass). slice_get l 0) is)

-- so a table of one pass has it as its only one
pub opened_only : (schema : List Column) (sizes : Config) (t : Table) (p : Pass) → IsOpened schema (of_one_pass sizes) t (p ∷ []) → IsOnlyPass t p
opened_only schema sizes t p opened =
    let new = opened.each 0 p refl in
    record { pass = new.of; one = ap (λ (z : Sizes). z.passes) opened.sizes_are; first = new.number_is }

-- ---- eight passes

same_some : {A : Type 0} (x y : A) → Some x ≡ Some y → x ≡ y
same_some x y e = cc

-- one that is found at a place is among them
get_member : (xs : List Pass) (n : ℕ) (p : Pass) → slice_get xs n ≡ Some p → Member p xs
get_member [] n p e = absurd (cc)
get_member (x ∷ xs) zero p e = inl (sym (same_some x p e))
get_member (x ∷ xs) (suc n) p e = inr (get_member xs n p e)

-- below the length something is found
get_below : (xs : List Pass) (n : ℕ) → n < length xs → (p : Pass) × (slice_get xs n ≡ Some p)
get_below [] n below = absurd (omega arith)
get_below (x ∷ xs) zero below = (x, refl)
get_below (x ∷ xs) (suc n) below = get_below xs n (omega arith)

module _ (t : Table) (passes : List Pass) (places : AreInPlace t passes) where
  pub all_of : AreOf t passes
  all_of k d below = (places k _ (slice_get-get_or passes k d below)).0

  pub all_here : (count : ℕ) → length passes ≡ count → AreAllPasses count passes
  all_here count long = (
    long,
    λ n below. let found = get_below passes n (let few = below in omega (arith, long, few)) in
        (found.0, get_member passes n found.0 found.1, (places n found.0 found.1).1),
  )

-- what is found stands below the length
found_below : (xs : List Pass) (n : ℕ) (p : Pass) → slice_get xs n ≡ Some p → n < length xs
found_below [] n p e = absurd (cc)
found_below (x ∷ xs) zero p e = omega arith
found_below (x ∷ xs) (suc n) p e = let below = found_below xs n p e in omega arith

same_number : (t : Table) (p q : Pass) → SamePass p.seat q.seat → number_of q ≡ number_of p
same_number t p q same = sym q.seat.own ∙ (same.number ∙ p.seat.own)

-- passes that come back from a schedule stand in their places
pub back_in_place : (t : Table) (before back : List Pass) → AreEight t before → length back ≡ 8 → ComeBack t before back → AreInPlace t back
back_in_place t before back eight many come n q found =
    let below = found_below back n q found in
    let few = eight.0 in
    let was = get_below before n (omega (arith, below, many, few)) in
    let same = come n was.0 q was.1 found in
    (same.0, same_number t was.0 q same.1 ∙ (eight.1 n was.0 was.1).1)

-- as the table was opened
pub new_passes : (schema : List Column) (config : Config) (t : Table) (passes : List Pass) → IsOpened schema config t passes → AreInPlace t passes
new_passes schema config t passes opened n p found = let new = opened.each n p found in (new.of, new.number_is)
