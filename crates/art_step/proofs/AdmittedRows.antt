-- The rows that a history leaves have keys that its commands had.
use Rattle.std.proofs.Common.{◌≡◌, ◌∙◌, ℕ, Bool, true, false, List, [], ◌∷◌, Some, None, cond, inl, inr, refl, sym, subst}
use Rattle.std.proofs.lemmas.Map.Lookups.{exact_bytes}
use Rattle.std.proofs.lemmas.Cmp.{nat_list_cmp_total}
use Rattle.std.specs.FinMap.{empty, get, get-empty, get-insert, get-remove, insert, remove}
use Rattle.std.specs.Cmp.{Equal-is}
use Rattle.std.specs.Cmp.Lexicographic.{slice_cmp}
use Rattle.std.specs.Ordering.{is_eq, nat_cmp}
use Rattle.std.specs.Prelude.{Option}
use Rattle.art_step.specs.Deeds.{IsAdmitted, key_asked}
use Rattle.art_step.specs.Histories.{AreAdmitted, becomes, by_value, map_after, replay, run}
use Rattle.art_step.specs.Knowledge.{HoldsAmong}
use Rattle.art_step.specs.Sound.{IsSound}
use Rattle.art_step.specs.Views.{Memory, Views}
use Rattle.art_step.specs.declared.deeds.Act.{Act}
use Rattle.art_step.specs.declared.deeds.Act.TheVariants.{Insert, Remove, Get}
use Rattle.art_step.specs.declared.deeds.Deed.{Deed}
use Rattle.art_step.specs.declared.deeds.Deed.TheVariants.{Done, Look}
use Rattle.art_step.specs.declared.views.Event.{Event}
use Rattle.art_step.specs.declared.views.Sizes.{Sizes}
use Rattle.art_step.specs.declared.views.Stamp.{Stamp}
use Rattle.art_step.specs.declared.views.View.{View}
use Rattle.art_step.proofs.Facts.{holds_all}
use Rattle.art_tree.specs.Rows.{ByteMap}

module _ (A : List ℕ → Type 0) where
  -- all keys of the map are admitted
  abbrev Admits : ByteMap → Type 0
  Admits m = (k : List ℕ) (v : ℕ) → get m k ≡ Some v → A k

  inserts : (m : ByteMap) (k : List ℕ) (value : ℕ) → Admits m → A k → Admits (insert m k value)
  inserts m k value all is j v e = by (is_eq (slice_cmp nat_cmp j k)) refl (sym (get-insert nat_list_cmp_total m k value j) ∙ e)
    where
      by : (b : Bool) → is_eq (slice_cmp nat_cmp j k) ≡ b → cond b (Some value) (get m j) ≡ Some v → A j
      by true same e = subst A (sym (exact_bytes j k ((Equal-is (slice_cmp nat_cmp j k)).0 same))) is
      by false other e = all j v e

  removes : (m : ByteMap) (k : List ℕ) → Admits m → Admits (remove m k)
  removes m k all j v e = by (is_eq (slice_cmp nat_cmp j k)) (sym (get-remove nat_list_cmp_total m k j) ∙ e)
    where
      by : (b : Bool) → cond b None (get m j) ≡ Some v → A j
      by true e = absurd (cc)
      by false e = all j v e

  -- where a key has a value or none, one of two maps follows
  either_map : (o : Option ℕ) (there absent : ByteMap) → Admits there → Admits absent → Admits (by_value o (λ _. there) absent)
  either_map None there absent a b = b
  either_map (Some v) there absent a b = a

  acts : (m : ByteMap) (a : Act) → Admits m → A (key_asked a) → Admits (map_after m a)
  acts m (Insert k v) all is = either_map (get m k.items) m (insert m k.items v) all (inserts m k.items v all is)
  acts m (Remove k) all is = either_map (get m k.items) (remove m k.items) m (removes m k.items all) all
  acts m (Get k) all is = all

  steps : (m : ByteMap) (what : Deed) → Admits m → IsAdmitted A what → Admits (becomes m what)
  steps m (Done a r) all is = acts m a all is
  steps m (Look lo hi row) all is = all

  runs : (m : ByteMap) (log : List Event) → Admits m → AreAdmitted A log → Admits (run m log)
  runs m [] all are = all
  runs m (e ∷ es) all are = runs (becomes m e.what) es (steps m e.what all (are e (inl refl))) (λ x i. are x (inr i))

  none : Admits empty
  none k v e = let no = sym (get-empty {X = ℕ} (slice_cmp nat_cmp) k) ∙ e in absurd (cc)

  -- the keys of the rows that a history leaves are admitted, where those of its commands are
  pub replay_admits : (log : List Event) → AreAdmitted A log → (k : List ℕ) (v : ℕ) → get (replay log) k ≡ Some v → A k
  replay_admits log are = runs empty log none are

  -- while the version word is the stamped one, what was noted under the stamp holds of a tree whose keys are admitted
  pub holds_among : (z : Sizes) (p : ℕ) (v : View) (m : Memory) (f : Views) (x : Stamp) → f p ≡ Some v → (r : IsSound z m f) → AreAdmitted A r.log → m.version x.cell ≡ x.version
      → HoldsAmong A z v x
  holds_among z p v m f x at r are same = record {
    cells = r.logical;
    shape = r.shows.shape;
    holds = holds_all m r.logical v x (r.vouch p v at) same;
    keys = λ k value row. replay_admits r.log are k value ((r.shows.rows k value).0 row);
  }
