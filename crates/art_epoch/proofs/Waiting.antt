-- Places that wait, as they stand in a list, and as the view has them.
use Rattle.std.proofs.Common.{◌≡◌, ◌≢◌, ◌⊎◌, ℕ, zero, suc, ◌<◌, Bool, true, false, if◌then◌else◌, List, [], ◌∷◌, ◌++◌, map, length, get_or, inl, inr, ⊎_elim, sym, refl, ap, ◌∙◌, subst, arith}
use Rattle.std.specs.List.{remove}
use Rattle.std.specs.Prelude.{Option, Some, None}
use Rattle.art_cell.specs.declared.cells.Link.{Link}
use Rattle.art_epoch.specs.Limbo.{IsLimbo, IsPlace, lets_go, links_waiting, no_place, open_index, place_of_number, places_for}
use Rattle.art_epoch.specs.declared.limbo.Place.{Place}
use Rattle.art_step.specs.declared.views.Retired.{Retired}
use Rattle.art_step.specs.Steps.Epoch.{label_or, labelled}
use Rattle.art_step.specs.declared.views.Pin.{Pin}
use Rattle.art_step.specs.Steps.Commit.{all_retired, retired}
use Rattle.art_step.specs.Views.{IsOnce, Member, links_in_limbo}
use Rattle.art_step.proofs.Gathered.{key_member, member_key}
use Rattle.art_step.proofs.SetsView.{member_append, member_back, member_front}

-- ---- the first place that may go

-- it is the one at which the test is true, after places at which it is not
pub open_here : (least : Option ℕ) (ps : List Place) (i : ℕ) → i < length ps → ((j : ℕ) → j < i → lets_go least (get_or ps j no_place).label ≡ false) → lets_go least (get_or ps i no_place).label ≡ true → i ≡ open_index least ps
open_here least [] i low before goes = absurd (omega arith)
open_here least (x ∷ ps) zero low before goes = sym (ap (λ (b : Bool). if b then 0 else suc (open_index least ps)) goes)
open_here least (x ∷ ps) (suc i) low before goes =
    ap suc (open_here least ps i (omega arith) (λ j less. before (suc j) (omega arith)) goes)
    ∙ sym (ap (λ (b : Bool). if b then 0 else suc (open_index least ps)) (before 0 (omega arith)))

-- where the test is true of none, there is none
pub none_open : (least : Option ℕ) (ps : List Place) → ((j : ℕ) → j < length ps → lets_go least (get_or ps j no_place).label ≡ false) → open_index least ps ≡ length ps
none_open least [] closed = refl
none_open least (x ∷ ps) closed =
    ap (λ (b : Bool). if b then 0 else suc (open_index least ps)) (closed 0 (omega arith)) ∙ ap suc (none_open least ps (λ j low. closed (suc j) (omega arith)))

-- the place at the index may go
pub open_goes : (least : Option ℕ) (ps : List Place) → open_index least ps < length ps → lets_go least (get_or ps (open_index least ps) no_place).label ≡ true
open_goes least [] low = absurd (omega arith)
open_goes least (x ∷ ps) low = by_test (lets_go least x.label) refl (open_goes least ps) low
  where
    by_test : (b : Bool) → lets_go least x.label ≡ b → (open_index least ps < length ps → lets_go least (get_or ps (open_index least ps) no_place).label ≡ true)
        → (if b then 0 else suc (open_index least ps)) < length (x ∷ ps) → lets_go least (get_or (x ∷ ps) (if b then 0 else suc (open_index least ps)) no_place).label ≡ true
    by_test true is rest low = is
    by_test false is rest low = rest (omega arith)

-- where there is none, no member may go
pub closed_all : (least : Option ℕ) (ps : List Place) → (open_index least ps < length ps → ⊥) → (x : Place) → Member x ps → lets_go least x.label ≡ false
closed_all least [] none x i = absurd i
closed_all least (p ∷ ps) none x i = by_test (lets_go least p.label) refl (λ closed. closed_all least ps closed x) none i
  where
    by_test : (b : Bool) → lets_go least p.label ≡ b → ((open_index least ps < length ps → ⊥) → Member x ps → lets_go least x.label ≡ false)
        → ((if b then 0 else suc (open_index least ps)) < length (p ∷ ps) → ⊥) → Member x (p ∷ ps) → lets_go least x.label ≡ false
    by_test true is rest none i = absurd (none (omega arith))
    by_test false is rest none i = ⊎_elim
        (λ (e : x ≡ p). ap (λ (y : Place). lets_go least y.label) e ∙ is)
        (λ (j : Member x ps). rest (λ low. none (omega arith)) j)
        i

-- ---- a place goes

pub at_member : (ps : List Place) (i : ℕ) → i < length ps → Member (get_or ps i no_place) ps
at_member [] i low = absurd (omega arith)
at_member (x ∷ ps) zero low = inl refl
at_member (x ∷ ps) (suc i) low = inr (at_member ps i (omega arith))

pub member_of_rest : (ps : List Place) (i : ℕ) (x : Place) → Member x (remove ps i) → Member x ps
member_of_rest [] zero x i = absurd i
member_of_rest [] (suc n) x i = absurd i
member_of_rest (p ∷ ps) zero x i = inr i
member_of_rest (p ∷ ps) (suc n) x i = ⊎_elim (λ (e : x ≡ p). inl e) (λ (j : Member x (remove ps n)). inr (member_of_rest ps n x j)) i

pub rest_has : (ps : List Place) (i : ℕ) (x : Place) → Member x ps → x ≢ get_or ps i no_place → Member x (remove ps i)
rest_has [] i x j other = absurd j
rest_has (p ∷ ps) zero x j other = ⊎_elim (λ (e : x ≡ p). absurd (other e)) (λ (k : Member x ps). k) j
rest_has (p ∷ ps) (suc n) x j other = ⊎_elim (λ (e : x ≡ p). inl e) (λ (k : Member x ps). inr (rest_has ps n x k other)) j

pub rest_once : (ps : List Place) (i : ℕ) → IsOnce (links_waiting ps) → IsOnce (links_waiting (remove ps i))
rest_once [] zero once = tt
rest_once [] (suc n) once = tt
rest_once (p ∷ ps) zero once = once.1
rest_once (p ∷ ps) (suc n) once = (
  λ i. let o = key_member (λ (x : Place). x.link) (remove ps n) p.link i in once.0 (subst (λ (d : Link). Member d (links_waiting ps)) o.2 (member_key (λ (x : Place). x.link) ps o.0 (member_of_rest ps n o.0 o.1))),
  rest_once ps n once.1,
)

-- and its number waits no more
pub rest_apart : (ps : List Place) (i : ℕ) → i < length ps → IsOnce (links_waiting ps) → (x : Place) → Member x (remove ps i) → x.link ≢ (get_or ps i no_place).link
rest_apart [] i low once x j = absurd (omega arith)
rest_apart (p ∷ ps) zero low once x j = λ e. once.0 (subst (λ (d : Link). Member d (links_waiting ps)) e (member_key (λ (x : Place). x.link) ps x j))
rest_apart (p ∷ ps) (suc n) low once x j = λ e. ⊎_elim
    (λ (is : x ≡ p). once.0 (subst (λ (d : Link). Member d (links_waiting ps)) (sym e ∙ ap (λ (y : Place). y.link) is) (member_key (λ (x : Place). x.link) ps (get_or ps n no_place) (at_member ps n (omega arith)))))
    (λ (k : Member x (remove ps n)). rest_apart ps n (omega arith) once.1 x k e)
    j

-- ---- the limbo of the view

-- its places may change, but for their links, and for labels that they have
pub limbo_mapped : (k : Retired → Retired) → ((e : Retired) → (k e).link ≡ e.link) → ((e : Retired) (l : ℕ) → e.label ≡ Some l → (k e).label ≡ Some l) → (ps : List Place) (es : List Retired) → IsLimbo ps [] es → IsLimbo ps [] (map k es)
limbo_mapped k link label ps es o = record {
  has = λ x i. let e = o.has x i in (k e.0, member_key k es e.0 e.1, record { link = link e.0 ∙ e.2.link; label = label e.0 x.label e.2.label });
  new = λ d i. absurd i;
  only = λ e i.
      let d = key_member k es e i in
      ⊎_elim
      (λ (a : (x : Place) × Member x ps × IsPlace x d.0). inl (a.0, a.1, record { link = ap (λ (y : Retired). y.link) (sym d.2) ∙ (link d.0 ∙ a.2.link); label = ap (λ (y : Retired). y.label) (sym d.2) ∙ label d.0 a.0.label a.2.label }))
      (λ (a : Member d.0.link [] × (d.0.label ≡ None)). absurd a.0)
      (o.only d.0 d.1);
  once = o.once;
}

-- a number goes back
pub limbo_without : (ps : List Place) (i : ℕ) (es es' : List Retired) → i < length ps → IsLimbo ps [] es → ((e : Retired) → Member e es' → Member e es × (e.link ≢ (get_or ps i no_place).link))
    → ((e : Retired) → Member e es → e.link ≢ (get_or ps i no_place).link → Member e es') → IsLimbo (remove ps i) [] es'
limbo_without ps i es es' low o was stays = record {
  has = λ x j.
      let e = o.has x (member_of_rest ps i x j) in
      (e.0, stays e.0 e.1 (λ same. rest_apart ps i low o.once x j (sym e.2.link ∙ same)), e.2);
  new = λ d j. absurd j;
  only = λ e j.
      let k = was e j in
      ⊎_elim
      (λ (a : (x : Place) × Member x ps × IsPlace x e). inl (a.0, rest_has ps i a.0 a.1 (λ same. k.1 (a.2.link ∙ ap (λ (y : Place). y.link) same)), a.2))
      (λ (a : Member e.link [] × (e.label ≡ None)). absurd a.0)
      (o.only e k.0);
  once = rest_once ps i o.once;
}

-- ---- what is unlinked gets its label

place_member : (label : ℕ) (us : List Link) (d : Link) → Member d us → Member (place_of_number label d) (places_for label us)
place_member label us d i = member_key (place_of_number label) us d i

links_for : (label : ℕ) (us : List Link) → links_waiting (places_for label us) ≡ us
links_for label [] = refl
links_for label (d ∷ us) = ap (λ (ds : List Link). d ∷ ds) (links_for label us)

links_append : (ps qs : List Place) → links_waiting (ps ++ qs) ≡ links_waiting ps ++ links_waiting qs
links_append [] qs = refl
links_append (p ∷ ps) qs = ap (λ (ds : List Link). p.link ∷ ds) (links_append ps qs)

-- no number twice, in either order
once_swapped : (us ds : List Link) → IsOnce (us ++ ds) → IsOnce (ds ++ us)
once_swapped [] ds once = subst IsOnce (sym (append_none ds)) once
  where
    append_none : (ds : List Link) → ds ++ [] ≡ ds
    append_none [] = refl
    append_none (d ∷ ds) = ap (λ (es : List Link). d ∷ es) (append_none ds)
once_swapped (u ∷ us) ds once = insert u ds us (λ i. once.0 (either u us ds (member_append u ds us i))) (once_swapped us ds once.1)
  where
    either : (u : Link) (us ds : List Link) → Member u ds ⊎ Member u us → Member u (us ++ ds)
    either u us ds i = ⊎_elim (λ (j : Member u ds). member_back u us ds j) (λ (j : Member u us). member_front u us ds j) i

    insert : (u : Link) (ds us : List Link) → (Member u (ds ++ us) → ⊥) → IsOnce (ds ++ us) → IsOnce (ds ++ u ∷ us)
    insert u [] us new once = (new, once)
    insert u (d ∷ ds) us new once = (
      λ i. ⊎_elim
          (λ (j : Member d ds). once.0 (member_front d ds us j))
          (⊎_elim (λ (e : d ≡ u). new (inl (sym e))) (λ (j : Member d us). once.0 (member_back d ds us j)))
          (member_append d ds (u ∷ us) i),
      insert u ds us (λ i. new (inr i)) once.1,
    )

-- once the epoch labels them, they wait with the others
pub limbo_labelled : (x : ℕ) (ps : List Place) (us : List Link) (es : List Retired) → IsLimbo ps us es → IsLimbo (ps ++ places_for x us) [] (map (labelled x) es)
limbo_labelled x ps us es o = record {
  has = λ y i. ⊎_elim
      (λ (j : Member y ps). let e = o.has y j in (labelled x e.0, member_key (labelled x) es e.0 e.1, record { link = e.2.link; label = ap (λ (l : Option ℕ). label_or l x) e.2.label }))
      (λ (j : Member y (places_for x us)).
      let d = key_member (place_of_number x) us y j in
      let e = o.new d.0 d.1 in
      (labelled x e.0, member_key (labelled x) es e.0 e.1, record { link = e.2 ∙ ap (λ (p : Place). p.link) d.2; label = ap (λ (l : Option ℕ). label_or l x) e.3 ∙ ap (λ (p : Place). Some p.label) d.2 }))
      (member_append y ps (places_for x us) i);
  new = λ d i. absurd i;
  only = λ e i.
      let d = key_member (labelled x) es e i in
      inl (⊎_elim
      (λ (a : (y : Place) × Member y ps × IsPlace y d.0). (
        a.0,
        member_front a.0 ps (places_for x us) a.1,
        record { link = ap (λ (y : Retired). y.link) (sym d.2) ∙ a.2.link; label = ap (λ (y : Retired). y.label) (sym d.2) ∙ ap (λ (l : Option ℕ). label_or l x) a.2.label },
      ))
      (λ (a : Member d.0.link us × (d.0.label ≡ None)). (
        place_of_number x d.0.link,
        member_back (place_of_number x d.0.link) ps (places_for x us) (place_member x us d.0.link a.0),
        record { link = ap (λ (y : Retired). y.link) (sym d.2); label = ap (λ (y : Retired). y.label) (sym d.2) ∙ ap (λ (l : Option ℕ). label_or l x) a.1 },
      ))
      (o.only d.0 d.1));
  once = subst IsOnce (sym (links_append ps (places_for x us) ∙ ap (λ (ds : List Link). links_waiting ps ++ ds) (links_for x us))) (once_swapped us (links_waiting ps) o.once);
}

-- ---- what a commit unlinked

retired_links : (ks : List Pin) (us : List Link) (es : List Retired) → links_in_limbo (all_retired ks us ++ es) ≡ us ++ links_in_limbo es
retired_links ks [] es = refl
retired_links ks (d ∷ us) es = ap (λ (ds : List Link). d ∷ ds) (retired_links ks us es)

retired_is : (ks : List Pin) (us : List Link) (e : Retired) → Member e (all_retired ks us) → Member e.link us × (e.label ≡ None)
retired_is ks [] e i = absurd i
retired_is ks (d ∷ us) e i = ⊎_elim
    (λ (is : e ≡ retired ks d). (inl (ap (λ (y : Retired). y.link) is), ap (λ (y : Retired). y.label) is))
    (λ (j : Member e (all_retired ks us)). let o = retired_is ks us e j in (inr o.0, o.1))
    i

retires : (ks : List Pin) (us : List Link) (d : Link) → Member d us → Member (retired ks d) (all_retired ks us)
retires ks [] d i = absurd i
retires ks (e ∷ us) d i = ⊎_elim (λ (is : d ≡ e). inl (ap (retired ks) is)) (λ (j : Member d us). inr (retires ks us d j)) i

-- no number twice, among fewer
once_among : (us ds es : List Link) → IsOnce (us ++ es) → IsOnce ds → ((d : Link) → Member d ds → Member d es) → IsOnce (us ++ ds)
once_among [] ds es once own fewer = own
once_among (u ∷ us) ds es once own fewer = (
  λ i. once.0 (⊎_elim (λ (j : Member u us). member_front u us es j) (λ (j : Member u ds). member_back u us es (fewer u j)) (member_append u us ds i)),
  once_among us ds es once.1 own fewer,
)

-- its numbers wait without a label, beside those that waited, where hand and limbo name each number once
pub commit_waits : (ps : List Place) (ks : List Pin) (us : List Link) (es : List Retired) → IsLimbo ps [] es → IsOnce (links_in_limbo (all_retired ks us ++ es)) → IsLimbo ps us (all_retired ks us ++ es)
commit_waits ps ks us es o once = record {
  has = λ x i. let e = o.has x i in (e.0, member_back e.0 (all_retired ks us) es e.1, e.2);
  new = λ d i. (retired ks d, member_front (retired ks d) (all_retired ks us) es (retires ks us d i), refl, refl);
  only = λ e i. ⊎_elim
      (λ (j : Member e (all_retired ks us)). inr (retired_is ks us e j))
      (λ (j : Member e es). ⊎_elim
      (λ (a : (x : Place) × Member x ps × IsPlace x e). inl a)
      (λ (a : Member e.link [] × (e.label ≡ None)). absurd a.0)
      (o.only e j))
      (member_append e (all_retired ks us) es i);
  once = once_among us (links_waiting ps) (links_in_limbo es) (subst IsOnce (retired_links ks us es) once) o.once (λ d i.
      let x = key_member (λ (y : Place). y.link) ps d i in
      let e = o.has x.0 x.1 in
      subst (λ (c : Link). Member c (links_in_limbo es)) (e.2.link ∙ x.2) (member_key (λ (y : Retired). y.link) es e.0 e.1));
}
