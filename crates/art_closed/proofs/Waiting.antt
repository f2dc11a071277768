-- What waits in the limbos of several passes.
use Rattle.std.proofs.Common.{◌≡◌, ℕ, ◌+◌, Bool, true, false, cond, List, [], ◌∷◌, ◌++◌, length, inl, inr, ⊎_elim, refl, sym, ap, ap₂, ◌∙◌, subst, arith, length-append}
use Rattle.std.proofs.lemmas.Bool.{eqb-true, eq-eqb, false≢true}
use Rattle.std.proofs.lemmas.List.Sums.{sum_by-cons}
use Rattle.art_cell.specs.declared.cells.Link.{Link}
use Rattle.art_cell.specs.declared.cells.Pool.{Pool}
use Rattle.art_epoch.specs.Limbo.{IsLimbo, links_waiting}
use Rattle.art_epoch.specs.declared.limbo.Place.{Place}
use Rattle.art_shared.specs.Closing.{HasFate, InLimbo, numbers_of}
use Rattle.art_shared.specs.Rule.{Apart}
use Rattle.art_shared.specs.Tables.{view_of_pass}
use Rattle.art_shared.specs.declared.pass.Pass.{Pass}
use Rattle.art_step.specs.Views.{IsInLimbo, Member, pool_of, pool_rank}
use Rattle.art_step.proofs.SetsView.{member_append, member_back, member_front}
use Rattle.art_step.proofs.WordPlaces.{same_pool}
use Rattle.art_closed.specs.Counts.{HasCount, HaveLimbos, Waits, is_of, waiting_among, waiting_in_all}
use Rattle.art_closed.specs.Laws.{LimbosAddUp}
use Rattle.art_closed.proofs.Counted.{apart_once, few_numbers, once_apart}

module _ (pool : Pool) where
  of_pool : (d : Link) → is_of pool d ≡ true → pool_of d ≡ pool
  of_pool d e = same_pool (pool_of d) pool (eqb-true (pool_rank (pool_of d)) (pool_rank pool) e)

  pool_is : (d : Link) → pool_of d ≡ pool → is_of pool d ≡ true
  pool_is d e = eq-eqb (pool_rank (pool_of d)) (pool_rank pool) (ap pool_rank e)

  -- ---- in one limbo

  -- the numbers of the pool at some places
  abbrev waiting : List Place → List Link
  waiting [] = []
  waiting (x ∷ ps) = cond (is_of pool x.link) (x.link ∷ waiting ps) (waiting ps)

  length_waiting : (ps : List Place) → length (waiting ps) ≡ waiting_among pool ps
  length_waiting [] = refl
  length_waiting (x ∷ ps) = by (is_of pool x.link) (length_waiting ps) ∙ sym (sum_by-cons (λ (q : Place). cond (is_of pool q.link) 1 0) x ps)
    where
      by : (b : Bool) → length (waiting ps) ≡ waiting_among pool ps → length (cond b (x.link ∷ waiting ps) (waiting ps)) ≡ cond b 1 0 + waiting_among pool ps
      by true e = omega (arith, e)
      by false e = omega (arith, e)

  waits_at : (ps : List Place) (d : Link) → Member d (waiting ps) → (pool_of d ≡ pool) × Member d (links_waiting ps)
  waits_at [] d i = absurd i
  waits_at (x ∷ ps) d i = by (is_of pool x.link) refl i (λ j. waits_at ps d j)
    where
      by : (b : Bool) → is_of pool x.link ≡ b → Member d (cond b (x.link ∷ waiting ps) (waiting ps)) → (Member d (waiting ps) → (pool_of d ≡ pool) × Member d (links_waiting ps)) → (pool_of d ≡ pool) × Member d (links_waiting (x ∷ ps))
      by true e i rest = ⊎_elim (λ (s : d ≡ x.link). (ap pool_of s ∙ of_pool x.link e, inl s)) (λ (j : Member d (waiting ps)). let r = rest j in (r.0, inr r.1)) i
      by false e i rest = let r = rest i in (r.0, inr r.1)

  at_waits : (ps : List Place) (d : Link) → pool_of d ≡ pool → Member d (links_waiting ps) → Member d (waiting ps)
  at_waits [] d of i = absurd i
  at_waits (x ∷ ps) d of i = by (is_of pool x.link) refl i (λ j. at_waits ps d of j)
    where
      by : (b : Bool) → is_of pool x.link ≡ b → Member d (links_waiting (x ∷ ps)) → (Member d (links_waiting ps) → Member d (waiting ps)) → Member d (cond b (x.link ∷ waiting ps) (waiting ps))
      by true e i rest = ⊎_elim (λ (s : d ≡ x.link). inl s) (λ (j : Member d (links_waiting ps)). inr (rest j)) i
      by false e i rest = ⊎_elim (λ (s : d ≡ x.link). absurd (false≢true (sym e ∙ pool_is x.link (ap pool_of (sym s) ∙ of)))) (λ (j : Member d (links_waiting ps)). rest j) i

  apart_waiting : (ps : List Place) → Apart (links_waiting ps) → Apart (waiting ps)
  apart_waiting [] apart = tt
  apart_waiting (x ∷ ps) apart = by (is_of pool x.link) (apart_waiting ps apart.1)
    where
      by : (b : Bool) → Apart (waiting ps) → Apart (cond b (x.link ∷ waiting ps) (waiting ps))
      by true rest = (λ i. apart.0 (waits_at ps x.link i).1, rest)
      by false rest = rest

  -- ---- in those of several passes

  abbrev waiting_all : List (List Place) → List Link
  waiting_all [] = []
  waiting_all (ps ∷ pss) = waiting ps ++ waiting_all pss

  length_all : (pss : List (List Place)) → length (waiting_all pss) ≡ waiting_in_all pool pss
  length_all [] = refl
  length_all (ps ∷ pss) = length-append (waiting ps) (waiting_all pss) ∙ ap₂ (λ (a b : ℕ). a + b) (length_waiting ps) (length_all pss) ∙ sym (sum_by-cons (waiting_among pool) ps pss)

  place_link : (ps : List Place) (x : Place) → Member x ps → Member x.link (links_waiting ps)
  place_link [] x i = absurd i
  place_link (y ∷ ps) x i = ⊎_elim (λ (e : x ≡ y). inl (ap (λ (q : Place). q.link) e)) (λ (j : Member x ps). inr (place_link ps x j)) i

  link_place : (ps : List Place) (d : Link) → Member d (links_waiting ps) → (x : Place) × Member x ps × (x.link ≡ d)
  link_place [] d i = absurd i
  link_place (y ∷ ps) d i = ⊎_elim (λ (e : d ≡ y.link). (y, inl refl, sym e)) (λ (j : Member d (links_waiting ps)). let r = link_place ps d j in (r.0, inr r.1, r.2)) i

  -- what waits at the places of a limbo is what the pass has there
  in_view : (ps : List Place) (a : Pass) → IsLimbo ps [] (view_of_pass a).limbo → (d : Link) → Member d (links_waiting ps) → IsInLimbo (view_of_pass a) d
  in_view ps a r d i = let x = link_place ps d i in let e = r.has x.0 x.1 in (e.0, e.1, e.2.link ∙ x.2)

  in_places : (ps : List Place) (a : Pass) → IsLimbo ps [] (view_of_pass a).limbo → (d : Link) → IsInLimbo (view_of_pass a) d → Member d (links_waiting ps)
  in_places ps a r d h = ⊎_elim
      (λ x. subst (λ (e : Link). Member e (links_waiting ps)) (sym x.2.link ∙ h.2) (place_link ps x.0 x.1))
      (λ x. absurd x.0)
      (r.only h.0 h.1)

  -- a number that waits does so in the limbo of one of the passes
  waits_in : (passes : List Pass) (pss : List (List Place)) → HaveLimbos passes pss → (d : Link) → Member d (waiting_all pss) → (pool_of d ≡ pool) × ((a : Pass) × Member a passes × IsInLimbo (view_of_pass a) d)
  waits_in [] [] have d i = absurd i
  waits_in [] (ps ∷ pss) have d i = absurd have
  waits_in (a ∷ passes) [] have d i = absurd have
  waits_in (a ∷ passes) (ps ∷ pss) have d i = ⊎_elim
      (λ (j : Member d (waiting ps)). let r = waits_at ps d j in (r.0, (a, inl refl, in_view ps a have.0 d r.1)))
      (λ (j : Member d (waiting_all pss)). let r = waits_in passes pss have.1 d j in (r.0, (r.1.0, inr r.1.1, r.1.2)))
      (member_append d (waiting ps) (waiting_all pss) i)

  in_waits : (passes : List Pass) (pss : List (List Place)) → HaveLimbos passes pss → (d : Link) (a : Pass) → pool_of d ≡ pool → Member a passes → IsInLimbo (view_of_pass a) d → Member d (waiting_all pss)
  in_waits [] pss have d a of i h = absurd i
  in_waits (b ∷ passes) [] have d a of i h = absurd have
  in_waits (b ∷ passes) (ps ∷ pss) have d a of i h = ⊎_elim
      (λ (e : a ≡ b). member_front d (waiting ps) (waiting_all pss) (at_waits ps d of (in_places ps b have.0 d (subst (λ (c : Pass). IsInLimbo (view_of_pass c) d) e h))))
      (λ (j : Member a passes). member_back d (waiting ps) (waiting_all pss) (in_waits passes pss have.1 d a of j h))
      i

  apart_both : (xs ys : List Link) → Apart xs → Apart ys → ((d : Link) → Member d xs → Member d ys → ⊥) → Apart (xs ++ ys)
  apart_both [] ys a b none = b
  apart_both (x ∷ xs) ys a b none = (
    λ i. ⊎_elim (λ (j : Member x xs). a.0 j) (λ (j : Member x ys). none x (inl refl) j) (member_append x xs ys i),
    apart_both xs ys a.1 b (λ d i j. none d (inr i) j),
  )

  number_there : (passes : List Pass) (a : Pass) → Member a passes → Member (view_of_pass a).pass (numbers_of passes)
  number_there [] a i = absurd i
  number_there (b ∷ passes) a i = ⊎_elim (λ (e : a ≡ b). inl (ap (λ (c : Pass). (view_of_pass c).pass) e)) (λ (j : Member a passes). inr (number_there passes a j)) i

  -- no number waits in two limbos, where each waits for one pass at most
  apart_all : (passes : List Pass) (pss : List (List Place)) → HaveLimbos passes pss → Apart (numbers_of passes)
      → ((d : Link) (a b : Pass) → Member a passes → Member b passes → IsInLimbo (view_of_pass a) d → IsInLimbo (view_of_pass b) d → (view_of_pass a).pass ≡ (view_of_pass b).pass)
      → Apart (waiting_all pss)
  apart_all [] [] have apart one = tt
  apart_all [] (ps ∷ pss) have apart one = absurd have
  apart_all (a ∷ passes) [] have apart one = absurd have
  apart_all (a ∷ passes) (ps ∷ pss) have apart one =
      apart_both (waiting ps) (waiting_all pss) (apart_waiting ps (once_apart (links_waiting ps) have.0.once))
      (apart_all passes pss have.1 apart.1 (λ d b e i j h g. one d b e (inr i) (inr j) h g))
      (λ d i j.
      let here = in_view ps a have.0 d (waits_at ps d i).1 in
      let there = waits_in passes pss have.1 d j in
      apart.0 (subst (λ (p : ℕ). Member p (numbers_of passes)) (sym (one d a there.1.0 (inl refl) (inr there.1.1) here there.1.2)) (number_there passes there.1.0 there.1.1)))

pub limbos_add_up : LimbosAddUp
limbos_add_up z m passes pss pool acc apart have =
    let waits_one = λ (d : Link) (a b : Pass) (i : Member a passes) (j : Member b passes) (h : IsInLimbo (view_of_pass a) d) (g : IsInLimbo (view_of_pass b) d).
    let fa : HasFate m passes d (InLimbo (view_of_pass a).pass) = (a, i, refl, h) in
    let fb : HasFate m passes d (InLimbo (view_of_pass b).pass) = (b, j, refl, g) in
    let is = acc.one d (acc.numbers d (InLimbo (view_of_pass a).pass) fa) in
    let same : InLimbo (view_of_pass a).pass ≡ InLimbo (view_of_pass b).pass = is.2 (InLimbo (view_of_pass a).pass) fa ∙ sym (is.2 (InLimbo (view_of_pass b).pass) fb) in
    let numbers : (view_of_pass a).pass ≡ (view_of_pass b).pass = cc (same) in
    numbers in
    let counted : HasCount (Waits m passes pool) (waiting_in_all pool pss) = (
      waiting_all pool pss,
      apart_once (waiting_all pool pss) (apart_all pool passes pss have apart waits_one),
      λ d. (
        λ i. let r = waits_in pool passes pss have d i in ((view_of_pass r.1.0).pass, (r.0, (r.1.0, r.1.1, refl, r.1.2))),
        λ h. in_waits pool passes pss have d h.1.1.0 h.1.0 h.1.1.1 h.1.1.3,
      ),
      length_all pool pss,
    ) in
    (record { accounted = acc; waiting = counted }, few_numbers z pool (Waits m passes pool) (waiting_in_all pool pss) (λ d h. (h.1.0, acc.numbers d (InLimbo h.0) h.1.1)) counted)
