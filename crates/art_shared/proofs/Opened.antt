-- The rule of the table at its opening.
use Rattle.art_key.specs.Spelling.{IsKeyOf}
use Rattle.art_step.specs.Histories.{AreAdmitted}
use Rattle.std.proofs.Common.{◌≡◌, ℕ, zero, suc, ◌+◌, ◌-◌, ◌*◌, ◌<◌, ◌≤◌, List, [], ◌∷◌, ◌++◌, length, Some, ⊎_elim, sym, refl, ap, ap₂, ◌∙◌, subst, arith, append-nil}
use Rattle.atomic_table.specs.Table.{Me, opening}
use Rattle.art_cell.specs.declared.cells.Cell.TheVariants as cell
use Rattle.art_step.specs.declared.views.Sizes.{Sizes}
use Rattle.art_step.specs.declared.views.View.{View}
use Rattle.art_step.specs.OpeningWords.{opening_words}
use Rattle.art_step.specs.Opening.{Opens, newcomer}
use Rattle.art_step.specs.Sound.{IsSound}
use Rattle.art_step.specs.Views.{Member, Views, last_counter}
use Rattle.art_step.specs.WordRows.{memory_of, newcomers, version_in}
use Rattle.art_step.proofs.Determined.{whole}
use Rattle.art_step.proofs.OpeningWords.{anchor_version, length-opening_words, opens}
use Rattle.art_step.proofs.StepOpens.{open_law}
use Rattle.art_shared.specs.declared.law.Basis.{Basis}
use Rattle.art_shared.specs.declared.law.Known.{Known}
use Rattle.art_shared.specs.Passes.{first_alone, head_of, newcomers_known, tail_of, without_first}
use Rattle.art_shared.specs.Rule.{Apart, Kept, passes_of, seated}
use Rattle.art_shared.proofs.Seated.{found_member}

newcomer_in : (k n : ℕ) (v : View) → Member v (newcomers k n) → (v ≡ newcomer v.pass) × (k ≤ v.pass) × (v.pass < k + n)
newcomer_in k zero v i = absurd i
newcomer_in k (suc n) v i = ⊎_elim
    (λ (e : v ≡ newcomer k). let at = ap (λ (u : View). u.pass) e in (e ∙ ap newcomer (sym at), omega arith, omega arith))
    (λ (j : Member v (newcomers (suc k) n)). let rest = newcomer_in (suc k) n v j in (rest.0, let low = rest.1 in omega arith, let high = rest.2 in omega arith))
    i

pass_in : (k n q : ℕ) → Member q (passes_of (newcomers k n)) → k ≤ q
pass_in k zero q i = absurd i
pass_in k (suc n) q i = ⊎_elim (λ (e : q ≡ k). omega arith) (λ (j : Member q (passes_of (newcomers (suc k) n))). let low = pass_in (suc k) n q j in omega arith) i

apart_newcomers : (k n : ℕ) → Apart (passes_of (newcomers k n))
apart_newcomers k zero = tt
apart_newcomers k (suc n) = (λ i. let low = pass_in (suc k) n k i in omega arith, apart_newcomers (suc k) n)

pub opened : (basis : Basis) (ws : List ℕ) → basis.counter_start ≤ last_counter → ws ≡ opening_words basis.sizes basis.counter_start → Kept basis (opening ws [] (newcomers_known basis))
opened basis ws low is =
    let z : Sizes = basis.sizes in
    let k : ℕ = basis.counter_start in
    let all : newcomers 0 z.passes ++ [] ≡ newcomers 0 z.passes = append-nil (newcomers 0 z.passes) in
    let o = opens z k low in
    let mine : Opens z (memory_of z (opening_words z k)) (seated (newcomers_known basis ∷ [])) = record {
      words = o.words;
      anchor = o.anchor;
      cells = o.cells;
      free = o.free;
      epoch = o.epoch;
      pass_word = o.pass_word;
      views = λ p v e.
          let at = found_member (newcomers 0 z.passes ++ []) p v e in
          let new = newcomer_in 0 z.passes v (subst (Member v) all at.0) in
          (let high = new.2 in let same = at.1 in omega arith, new.0 ∙ ap newcomer at.1);
    } in
    let f : Views = seated (newcomers_known basis ∷ []) in
    let sound : IsSound z (memory_of z ws) f = subst (λ (us : List ℕ). IsSound z (memory_of z us) f) (sym is) (open_law _ _ _ mine) in
    record {
      long = ap length is ∙ length-opening_words z k;
      sound = sound;
      apart = subst (λ (l : List View). Apart (passes_of l)) (sym all) (apart_newcomers 0 z.passes);
      told = λ h i. absurd i;
      typed = subst (AreAdmitted (IsKeyOf basis.schema)) (sym (⊎_elim
          (λ (none : sound.log ≡ []). none)
          (λ (o : (q : ℕ) × (u : View) × (f q ≡ Some u) × (u.seen ≡ sound.log)). sym o.3 ∙ ap (λ (u : View). u.seen) (mine.views o.0 o.1 o.2).1)
          (whole f sound.log sound.history))) (λ e i. absurd i);
      begins =
          let anchor : version_in z ws cell.Anchor ≡ 4 * k = ap (λ (us : List ℕ). version_in z us cell.Anchor) is ∙ anchor_version z k in
          record { least = omega (arith, anchor); exactly = λ idle. anchor };
    }

-- of words that begin at another counter, a lower one or a higher, the rule does not hold then
pub opened_alone : (basis : Basis) (k : ℕ) (ws : List ℕ) → ws ≡ opening_words basis.sizes k → Kept basis (opening ws [] (newcomers_known basis)) → k ≡ basis.counter_start
opened_alone basis k ws is kept =
    let z : Sizes = basis.sizes in
    let all : newcomers 0 z.passes ++ [] ≡ newcomers 0 z.passes = append-nil (newcomers 0 z.passes) in
    let anchor : version_in z ws cell.Anchor ≡ 4 * k = ap (λ (us : List ℕ). version_in z us cell.Anchor) is ∙ anchor_version z k in
    let start : version_in z ws cell.Anchor ≡ 4 * basis.counter_start = kept.begins.exactly (λ p v e.
    let at = found_member (newcomers 0 z.passes ++ []) p v e in
    ap (λ (u : View). u.steps) (newcomer_in 0 z.passes v (subst (Member v) all at.0)).0) in
    omega (arith, anchor, start)

-- the first of some newcomers
pub newcomers_more : (k n : ℕ) → 0 < n → newcomers k n ≡ newcomer k ∷ newcomers (suc k) (n - 1)
newcomers_more k zero low = absurd (omega arith)
newcomers_more k (suc n) low = ap (λ (j : ℕ). newcomer k ∷ newcomers (suc k) j) (omega arith)

pub cut_is : (l : List View) (v : View) (vs : List View) → l ≡ v ∷ vs → l ≡ (head_of l ∷ []) ++ tail_of l
cut_is l v vs e = subst (λ (l : List View). l ≡ (head_of l ∷ []) ++ tail_of l) (sym e) refl

-- what a seat has that knows some newcomers
abbrev pub newcomers_from : Basis → ℕ → ℕ → Me (Unit {0}) Known
newcomers_from b p n = (record { basis = b; views = newcomers p n; told = [] }, [])

-- what it has that has one newcomer
abbrev pub newcomer_alone : Basis → ℕ → Me (Unit {0}) Known
newcomer_alone b p = (record { basis = b; views = newcomer p ∷ []; told = [] }, [])

-- the first pass of the seat that has those that are left is the next one
pub next_alone : (b : Basis) (p : ℕ) (me : Me (Unit {0}) Known) → p < b.sizes.passes → me ≡ newcomers_from b p (b.sizes.passes - p) → (first_alone me.0, []) ≡ newcomer_alone b p
next_alone b p me low is = ap (λ (m : Me (Unit {0}) Known). (first_alone m.0, [])) is ∙ ap (λ (l : List View). (record { basis = b; views = head_of l ∷ []; told = [] }, [])) (newcomers_more p (b.sizes.passes - p) (omega arith))

-- and the others are left
pub others_left : (b : Basis) (p : ℕ) (me : Me (Unit {0}) Known) → p < b.sizes.passes → me ≡ newcomers_from b p (b.sizes.passes - p) → (without_first me.0, me.1) ≡ newcomers_from b (p + 1) (b.sizes.passes - (p + 1))
others_left b p me low is =
    let more : newcomers p (b.sizes.passes - p) ≡ newcomer p ∷ newcomers (p + 1) (b.sizes.passes - (p + 1)) = newcomers_more p (b.sizes.passes - p) (omega arith) ∙ ap₂ (λ (k n : ℕ). newcomer p ∷ newcomers k n) (omega arith) (omega arith) in
    subst (λ (m : Me (Unit {0}) Known). (without_first m.0, m.1) ≡ newcomers_from b (p + 1) (b.sizes.passes - (p + 1))) (sym is)
    (ap (λ (l : List View). (record { basis = b; views = tail_of l; told = [] }, [])) more)
