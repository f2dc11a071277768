-- A history that grows by one event.
use Rattle.std.proofs.Common.{◌≡◌, ◌≢◌, ℕ, ◌+◌, true, false, List, [], ◌∷◌, ◌++◌, length, if◌then◌else◌, sym, refl, ap, ◌∙◌, subst, eq-eqb, ne_eqb, arith, append-nil, append_assoc, add-zero, zero-add, ◌==◌, ⊎_elim}
use Rattle.std.specs.FinMap.{empty}
use Rattle.std.specs.Prelude.{Some}
use Rattle.art_step.specs.declared.views.Event.{Event}
use Rattle.art_step.specs.declared.views.View.{View}
use Rattle.art_step.specs.declared.deeds.Deed.{Deed}
use Rattle.art_tree.specs.Rows.{ByteMap}
use Rattle.art_step.specs.Histories.{event, IsAnswered, becomes, run, replay, IsLegalFrom, places_from, places, StartsWith}
use Rattle.art_step.specs.Sound.{IsOneHistory, IsSeenBy}
use Rattle.art_step.specs.Views.{Views, SetsView}
use Rattle.art_step.proofs.SetsView.{either_view, stranger_before}

run_more : (s : ByteMap) (es : List Event) (e : Event) → run s (es ++ e ∷ []) ≡ becomes (run s es) e.what
run_more s [] e = refl
run_more s (x ∷ xs) e = run_more (becomes s x.what) xs e

legal_more : (s : ByteMap) (es : List Event) (e : Event) → IsLegalFrom s es → IsAnswered (run s es) e.what → IsLegalFrom s (es ++ e ∷ [])
legal_more s [] e l f = (f, tt)
legal_more s (x ∷ xs) e l f = (l.0, legal_more (becomes s x.what) xs e l.1 f)

places_own : (p k : ℕ) (es : List Event) (e : Event) → e.pass ≡ p → places_from p k (es ++ e ∷ []) ≡ places_from p k es ++ (k + length es) ∷ []
places_own p k [] e is = rw (eq-eqb e.pass p is, add-zero)
places_own p k (x ∷ xs) e is =
    let A : List ℕ = places_from p (k + 1) (xs ++ e ∷ []) in
    let B : List ℕ = places_from p (k + 1) xs in
    let n : (k + 1) + length xs ≡ k + length (x ∷ xs) = omega arith in
    let h : A ≡ B ++ (k + length (x ∷ xs)) ∷ [] = places_own p (k + 1) xs e is ∙ ap (λ j. B ++ j ∷ []) n in
    elim (x.pass == p) as (λ b. (if b then k ∷ A else A) ≡ (if b then k ∷ B else B) ++ (k + length (x ∷ xs)) ∷ []) [ true ↦ ap (λ l. k ∷ l) h | false ↦ h ]

places_else : (p k : ℕ) (es : List Event) (e : Event) → e.pass ≢ p → places_from p k (es ++ e ∷ []) ≡ places_from p k es
places_else p k [] e other = rw (ne_eqb e.pass p other)
places_else p k (x ∷ xs) e other =
    let A : List ℕ = places_from p (k + 1) (xs ++ e ∷ []) in
    let B : List ℕ = places_from p (k + 1) xs in
    let h : A ≡ B = places_else p (k + 1) xs e other in
    elim (x.pass == p) as (λ b. (if b then k ∷ A else A) ≡ (if b then k ∷ B else B)) [ true ↦ ap (λ l. k ∷ l) h | false ↦ h ]

pub replay_more : (log : List Event) (e : Event) → replay (log ++ e ∷ []) ≡ becomes (replay log) e.what
replay_more log e = run_more empty log e

module _ (f g : Views) (p : ℕ) (v w : View) (t : SetsView f p w g) (at : f p ≡ Some v) (log : List Event) (r : IsOneHistory log f) (pass : w.pass ≡ v.pass) where
  -- the pass makes no event, and sees a beginning of the history
  sees_front : StartsWith log w.seen → places p w.seen ≡ v.own → w.own ≡ v.own → IsOneHistory log g
  sees_front starts all own = record {
    legal = r.legal;
    tells = λ q u e. ⊎_elim
        (λ (a : (q ≡ p) × (u ≡ w)). let k = r.tells p v at in
        subst (λ (x : ℕ × View). IsSeenBy log x.0 x.1) (λ i. (sym a.0 i, sym a.1 i)) record { pass = pass ∙ k.pass; starts = starts; own = k.own ∙ sym own; all = all ∙ sym own })
        (λ (a : (q ≢ p) × (f q ≡ Some u)). r.tells q u a.1) (either_view f g p w t q u e);
    strangers = λ q e. r.strangers q (stranger_before f g p w t q e).1;
  }

  -- it sees what it had seen
  pub history_stays : w.seen ≡ v.seen → w.own ≡ v.own → IsOneHistory log g
  history_stays seen own = let k = r.tells p v at in sees_front (k.starts.0, k.starts.1 ∙ ap (λ l. l ++ k.starts.0) (sym seen)) (ap (places p) seen ∙ k.all) own

  -- it sees all
  pub history_seen : w.seen ≡ log → w.own ≡ v.own → IsOneHistory log g
  history_seen seen own = sees_front ([], sym (append-nil log) ∙ ap (λ l. l ++ []) (sym seen)) (ap (places p) seen ∙ (r.tells p v at).own) own

  -- the pass makes an event
  pub history_grows : (what : Deed) → IsAnswered (replay log) what → w.seen ≡ log ++ event v.pass what ∷ [] → w.own ≡ v.own ++ length log ∷ [] → IsOneHistory (log ++ event v.pass what ∷ []) g
  history_grows what found seen own =
      let e : Event = event v.pass what in
      let grown : List Event = log ++ e ∷ [] in
      let mine : v.pass ≡ p = (r.tells p v at).pass in
      let now : places p grown ≡ w.own = (rw zero-add at (places_own p 0 log e mine)) ∙ (ap (λ (l : List ℕ). l ++ length log ∷ []) (r.tells p v at).own ∙ sym own) in
      record {
        legal = legal_more empty log e r.legal found;
        tells = λ q u is. ⊎_elim
            (λ (a : (q ≡ p) × (u ≡ w)). subst (λ (x : ℕ × View). IsSeenBy grown x.0 x.1) (λ i. (sym a.0 i, sym a.1 i))
            record { pass = pass ∙ mine; starts = ([], sym (append-nil grown) ∙ ap (λ l. l ++ []) (sym seen)); own = now; all = ap (places p) seen ∙ now })
            (λ (a : (q ≢ p) × (f q ≡ Some u)). let k = r.tells q u a.1 in
            record { pass = k.pass; starts = (k.starts.0 ++ e ∷ [], ap (λ (l : List Event). l ++ e ∷ []) k.starts.1 ∙ append_assoc u.seen k.starts.0 (e ∷ [])); own = places_else q 0 log e (λ h. a.0 (sym h ∙ mine)) ∙ k.own; all = k.all })
            (either_view f g p w t q u is);
        strangers = λ q is. let k = stranger_before f g p w t q is in places_else q 0 log e (λ h. k.0 (sym h ∙ mine)) ∙ r.strangers q k.1;
      }
