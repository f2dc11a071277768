-- The commit, the releases after it, and those of a change that is given up.
use Rattle.std.proofs.Common.{◌≡◌, ◌⊎◌, ◌↔◌, Bool, true, false, ℕ, ◌+◌, ◌<◌, List, [], ◌∷◌, ◌++◌, length, inl, inr, ⊎_elim, sym, refl, ap, ap₂, ◌∙◌, subst, arith}
use Rattle.std.proofs.lemmas.Option.{same_Some}
use Rattle.std.specs.Prelude.{Option, Some, None, Ok, Err}
use Rattle.std.specs.List.{cons_option}
use Rattle.std.specs.Option.{option_map}
use Rattle.art_cell.specs.declared.cells.Cell.{Cell}
use Rattle.art_cell.specs.declared.cells.Cell.TheVariants as cell
use Rattle.art_cell.specs.declared.cells.Link.{Link}
use Rattle.art_cell.specs.declared.cells.Link.TheVariants.{Node as node}
use Rattle.art_cell.specs.declared.cells.Node.{Node}
use Rattle.art_cell.specs.Words.{size}
use Rattle.art_cell.specs.declared.cells.Layout.{Layout}
use Rattle.art_cell.specs.declared.cells.Layout.TheVariants.{Node4, Node16, Node48, Node256}
use Rattle.art_plan.specs.ArtCommit.AnyChange.{IsClaimed}
use Rattle.art_plan.proofs.ArtCommit.Members.{claimed_nodes_come}
use Rattle.art_plan.specs.Apply.{Fails, GivesUp, HasFailed, IsCommitted, IsLocking, IsOver, IsReleasing, linked, so_many}
use Rattle.art_plan.proofs.Holding.{Fills, drop_holds, new_stays_linked, node_dropped, none_filled, none_held, target_low}
use Rattle.art_plan.proofs.Locking.{same_hand, same_limbo}
use Rattle.art_plan.specs.Changes.{IsLocked, IsTarget, filled_at, leaf_linked, target_at, targets, unlinked}
use Rattle.art_plan.specs.Whole.{HoldsWhole, IsNewBy, IsWhole, filled_ends, made_at}
use Rattle.art_plan.specs.declared.changes.Change.{Change}
use Rattle.art_plan.specs.declared.changes.Target.{Target}
use Rattle.art_step.specs.Events.{MakesEvent}
use Rattle.art_step.specs.Histories.{event, places}
use Rattle.art_step.specs.Shows.{Rest, rest_of}
use Rattle.art_step.specs.Steps.Commit as commit
use Rattle.art_step.specs.Steps.Commit.{all_retired, coming}
use Rattle.art_step.specs.Steps.Give.{HandsOver}
use Rattle.art_step.specs.Steps.Release as release
use Rattle.art_step.specs.Steps.Release.{IsNodeAmong}
use Rattle.art_step.specs.Views.{IsHolding, IsInLimbo, IsOnce, Member, links_in_hand, links_in_limbo}
use Rattle.art_step.specs.declared.faults.UpgradeFault.{UpgradeFault}
use Rattle.art_step.specs.declared.faults.UpgradeFault.TheVariants as fault
use Rattle.art_step.specs.declared.views.Event.{Event}
use Rattle.art_step.specs.declared.views.Holding.{Holding}
use Rattle.art_step.specs.declared.views.InHand.{InHand}
use Rattle.art_step.specs.declared.views.Pin.{Pin}
use Rattle.art_step.specs.declared.views.Retired.{Retired}
use Rattle.art_step.specs.declared.views.Sizes.{Sizes}
use Rattle.art_step.specs.declared.views.View.{View}
use Rattle.art_step.proofs.SetsView.{member_append, member_back, member_front}
use Rattle.art_step.proofs.StepCommits.{retired_of}

-- ---- what is in limbo after a commit

-- each of the numbers that it unlinked
retires : (ks : List Pin) (us : List Link) (d : Link) → Member d us → (e : Retired) × Member e (all_retired ks us) × (e.link ≡ d)
retires ks [] d i = absurd i
retires ks (e ∷ us) d i = ⊎_elim
    (λ (is : d ≡ e). (commit.retired ks e, inl refl, sym is))
    (λ (j : Member d us). let k = retires ks us d j in (k.0, inr k.1, k.2)) i

-- and what was there
pub limbo_after : (u v : View) (c : Change) (d : Link) → IsCommitted u c v → IsInLimbo v d ↔ (Member d (unlinked c) ⊎ IsInLimbo u d)
limbo_after u v c d k = (
  (λ e. ⊎_elim
      (λ (i : Member e.0 (all_retired k.pins (unlinked c))). inl (subst (λ (a : Link). Member a (unlinked c)) e.2 (retired_of k.pins (unlinked c) e.0 i).0))
      (λ (i : Member e.0 u.limbo). inr (e.0, i, e.2))
      (member_append e.0 (all_retired k.pins (unlinked c)) u.limbo (subst (λ (es : List Retired). Member e.0 es) k.limbo e.1))),
  ⊎_elim
      (λ (i : Member d (unlinked c)).
      let r = retires k.pins (unlinked c) d i in
      (r.0, subst (λ (es : List Retired). Member r.0 es) (sym k.limbo) (member_front r.0 (all_retired k.pins (unlinked c)) u.limbo r.1), r.2))
      (λ (e : IsInLimbo u d). (e.0, subst (λ (es : List Retired). Member e.0 es) (sym k.limbo) (member_back e.0 (all_retired k.pins (unlinked c)) u.limbo e.1), e.2)),
)

-- ---- what comes

-- the members of a list with one more at its front, where there is one
more_members : (o : Option Link) (ds : List Link) (d : Link) → Member d (cons_option o ds) ↔ ((o ≡ Some d) ⊎ Member d ds)
more_members None ds d = ((λ i. inr i), ⊎_elim (λ (e : None ≡ Some d). absurd (cc)) (λ (i : Member d ds). i))
more_members (Some a) ds d = (
  ⊎_elim (λ (e : d ≡ a). inl (ap Some (sym e))) (λ (i : Member d ds). inr i),
  ⊎_elim (λ (e : Some a ≡ Some d). inl (sym (same_Some a d e))) (λ (i : Member d ds). inr i),
)

-- the members of a leaf and two nodes, where there are such
pub linked_members : (o r q : Option Link) (d : Link) → Member d (cons_option o (cons_option r (cons_option q []))) ↔ ((o ≡ Some d) ⊎ ((r ≡ Some d) ⊎ (q ≡ Some d)))
linked_members o r q d =
    let first = more_members o (cons_option r (cons_option q [])) d in
    let second = more_members r (cons_option q []) d in
    let third = more_members q [] d in (
      (λ i. ⊎_elim
          (λ (e : o ≡ Some d). inl e)
          (λ (j : Member d (cons_option r (cons_option q []))). inr (⊎_elim
          (λ (e : r ≡ Some d). inl e)
          (λ (k : Member d (cons_option q [])). inr (⊎_elim (λ (e : q ≡ Some d). e) (λ (none : ⊥). absurd none) (third.0 k)))
          (second.0 j)))
          (first.0 i)),
      (λ i. first.1 (⊎_elim
          (λ (e : o ≡ Some d). inl e)
          (λ (j : (r ≡ Some d) ⊎ (q ≡ Some d)). inr (second.1 (⊎_elim
          (λ (e : r ≡ Some d). inl e)
          (λ (e : q ≡ Some d). inr (third.1 (inl e))) j))) i)),
    )

-- a node has words
pub some_words : (k : Layout) → 0 < size k
some_words Node4 = omega arith
some_words Node16 = omega arith
some_words Node48 = omega arith
some_words Node256 = omega arith

module _ (z : Sizes) (u : View) (c : Change) (planned : IsWhole z u c) where
  -- a node comes just where it is one that is made
  claimed_is_made : (v : View) → IsLocking u c (targets c) c.puts.items (filled_ends c) v → (n : Node) → IsClaimed v n → (b : Bool) × (made_at b c ≡ Some n)
  claimed_is_made v was n k = ⊎_elim
      (λ (t : IsTarget u c 0 (targets c) c.puts.items k.0). let both : None ≡ Some t.target.stamp.version = sym k.2 ∙ t.locked.stamped in absurd (cc))
      (λ (o : IsNewBy u c (filled_ends c) k.0). (o.which, o.is ∙ ap Some (same_node o.made n (sym o.filled_up.cell ∙ k.3))))
      (was.holds.only k.0 k.1)
    where
      same_node : (a b : Node) → cell.Node a ≡ cell.Node b → a ≡ b
      same_node a b e = cc

  -- of either
  either_made : (b : Bool) (d : Link) → option_map node (made_at b c) ≡ Some d → (option_map node (made_at false c) ≡ Some d) ⊎ (option_map node (made_at true c) ≡ Some d)
  either_made false d e = inl e
  either_made true d e = inr e

  pub comes : (v : View) (d : Link) → IsLocking u c (targets c) c.puts.items (filled_ends c) v → Member d (coming v (leaf_linked c)) ↔ Member d (linked c)
  comes v d was =
      let law = claimed_nodes_come v (leaf_linked c) d in
      let list = linked_members (leaf_linked c) (option_map node (made_at false c)) (option_map node (made_at true c)) d in (
        (λ i. list.1 (⊎_elim
            (λ (e : leaf_linked c ≡ Some d). inl e)
            (λ (k : (n : Node) × (d ≡ node n) × IsClaimed v n).
            let o = claimed_is_made v was k.0 k.2 in
            inr (either_made o.0 d (ap (option_map node) o.1 ∙ ap Some (sym k.1))))
            (law.0 i))),
        (λ i. law.1 (⊎_elim
            (λ (e : leaf_linked c ≡ Some d). inl e)
            (⊎_elim
            (λ (e : option_map node (made_at false c) ≡ Some d). inr (made_claimed v was d false (made_at false c) refl e))
            (λ (e : option_map node (made_at true c) ≡ Some d). inr (made_claimed v was d true (made_at true c) refl e)))
            (list.0 i))),
      )
    where
      made_claimed : (v : View) → IsLocking u c (targets c) c.puts.items (filled_ends c) v → (d : Link) (b : Bool) (o : Option Node) → made_at b c ≡ o → option_map node o ≡ Some d → (n : Node) × (d ≡ node n) × IsClaimed v n
      made_claimed v was d b None is e = absurd (cc)
      made_claimed v was d b (Some n) is e =
          let some : 0 < filled_ends c b = subst (λ (o : Option Node). 0 < filled_at c o) (sym is) (some_words n.layout) in
          let h = was.holds.new b n is some in
          (n, sym (same_Some (node n) d e), (h.0, h.1, h.2.stamped, h.2.cell))

  -- ---- the commit

  module _ (v w : View) (x : Target) (was : IsLocking u c (targets c) c.puts.items (filled_ends c) v) (at : target_at c 0 ≡ Some x)
      (row : (h : Holding) → IsHolding v x.stamp.cell h → commit.Outcome v w c.effects.deed (unlinked c) (coming v (leaf_linked c)) h) (once : IsOnce (links_in_limbo w.limbo)) where
    top : (h : Holding) × Member h v.held × IsLocked u 0 x c.puts.items h
    top = was.holds.each 0 x (omega arith) planned.some at

    o : commit.Outcome v w c.effects.deed (unlinked c) (coming v (leaf_linked c)) top.0
    o = row top.0 (top.1, top.2.cell)

    rest_was : (f : Rest → Rest) → f (rest_of (record v { held = u.held; committed = u.committed })) ≡ f (rest_of u)
    rest_was f = ap f was.same.rest

    committed : IsCommitted u c w
    committed = record {
      event = record {
        between = o.made.between;
        seen = o.made.seen ∙ ap₂ (λ (l : List Event) (i : ℕ). (l ++ o.made.between) ++ event i c.effects.deed ∷ []) (ap (λ (r : Rest). r.seen) was.same.rest) (ap (λ (r : Rest). r.pass) was.same.rest);
        own = o.made.own ∙ ap₂ (λ (l : List ℕ) (k : List Event). l ++ length (k ++ o.made.between) ∷ []) (ap (λ (r : Rest). r.own) was.same.rest) (ap (λ (r : Rest). r.seen) was.same.rest);
        legal = o.made.legal;
        all = subst (λ (i : ℕ). places i w.seen ≡ w.own) (ap (λ (r : Rest). r.pass) was.same.rest) o.made.all;
      };
      hand = record {
        was = λ i m.
            let k = o.hands.was i (subst (λ (is : List InHand). Member i is) (ap (λ (t : View). t.hand) o.is) m) in
            (subst (λ (is : List InHand). Member i is) (same_hand u v was.same) k.0, λ j. k.1 ((comes v i.link was).1 j));
        stays = λ i m out.
            subst (λ (is : List InHand). Member i is) (sym (ap (λ (t : View). t.hand) o.is))
            (o.hands.stays i (subst (λ (is : List InHand). Member i is) (sym (same_hand u v was.same)) m) (λ j. out ((comes v i.link was).0 j)));
        once = λ k. subst (λ (is : List InHand). IsOnce (links_in_hand is)) (sym (ap (λ (t : View). t.hand) o.is)) (o.hands.once (subst (λ (is : List InHand). IsOnce (links_in_hand is)) (sym (same_hand u v was.same)) k));
      };
      pins = o.pins;
      limbo = ap (λ (t : View). t.limbo) o.is ∙ ap (λ (es : List Retired). all_retired o.pins (unlinked c) ++ es) (same_limbo u v was.same);
      once = once;
      rest = ap (λ (t : View). rest_of (record t { seen = u.seen; own = u.own; held = u.held; committed = u.committed; hand = u.hand; limbo = u.limbo })) o.is ∙ ap (λ (r : Rest). record r { seen = u.seen; own = u.own; hand = u.hand; limbo = u.limbo }) was.same.rest;
      stamps = ap (λ (t : View). t.stamps) o.is ∙ was.same.stamps;
      notes = ap (λ (t : View). t.notes) o.is ∙ was.same.notes;
      failures = ap (λ (t : View). t.failures) o.is ∙ was.same.failures;
    }

    pub commit_on : IsReleasing u c 1 (filled_ends c) w
    commit_on = record {
      done = committed;
      stays = λ b n made. new_stays_linked z u c planned c.puts.items (filled_ends c) v.held b n was.holds made;
      holds = subst (λ (hs : List Holding). HoldsWhole u c 1 (targets c) c.puts.items (filled_ends c) hs) (sym (ap (λ (t : View). t.held) o.is))
          (drop_holds z u c planned 0 (targets c) c.puts.items (filled_ends c) v.held o.held was.holds x at planned.some
          (subst (λ (d : Cell). release.Drops v.held d o.held) top.2.cell o.drops));
      late = ap (λ (t : View). t.committed) o.is;
    }

  -- ---- releases after it

  release_committed : (v w : View) (h : Holding) → IsCommitted u c v → release.Outcome v w h → IsCommitted u c w
  release_committed v w h was o = record {
    event = subst (λ (t : View). MakesEvent u t c.effects.deed) (sym o.is) (record { between = was.event.between; seen = was.event.seen; own = was.event.own; legal = was.event.legal; all = was.event.all });
    hand = subst (λ (t : View). HandsOver u.hand (linked c) t.hand) (sym o.is) was.hand;
    pins = was.pins;
    limbo = ap (λ (t : View). t.limbo) o.is ∙ was.limbo;
    once = subst (λ (t : View). IsOnce (links_in_limbo t.limbo)) (sym o.is) was.once;
    rest = ap (λ (t : View). rest_of (record t { seen = u.seen; own = u.own; held = u.held; committed = u.committed; hand = u.hand; limbo = u.limbo })) o.is ∙ was.rest;
    stamps = ap (λ (t : View). t.stamps) o.is ∙ was.stamps;
    notes = ap (λ (t : View). t.notes) o.is ∙ was.notes;
    failures = ap (λ (t : View). t.failures) o.is ∙ was.failures;
  }

  pub release_on : (i : ℕ) (filled : Bool → ℕ) (x : Target) (v w : View) → IsReleasing u c i filled v → target_at c i ≡ Some x → ((h : Holding) → IsHolding v x.stamp.cell h → release.Outcome v w h) → IsReleasing u c (i + 1) filled w
  release_on i filled x v w was at row =
      let low = target_low c i x at in
      let h = was.holds.each i x (omega arith) low at in
      let o = row h.0 (h.1, h.2.cell) in
      record {
        done = release_committed v w h.0 was.done o;
        stays = was.stays;
        holds = subst (λ (hs : List Holding). HoldsWhole u c (i + 1) (targets c) c.puts.items filled hs) (sym (ap (λ (t : View). t.held) o.is))
            (drop_holds z u c planned i (targets c) c.puts.items filled v.held o.held was.holds x at low (subst (λ (d : Cell). release.Drops v.held d o.held) h.2.cell o.drops));
        late = ap (λ (t : View). t.committed) o.is ∙ was.late;
      }

  pub release_new : (b : Bool) (filled filled' : Bool → ℕ) → Fills filled b 0 filled' → 0 < filled b → (n : Node) (v w : View) → IsReleasing u c (targets c) filled v → made_at b c ≡ Some n → ((h : Holding) → IsHolding v (cell.Node n) h → release.Outcome v w h)
      → IsReleasing u c (targets c) filled' w
  release_new b filled filled' fills some n v w was made row =
      let h = was.holds.new b n made some in
      let o = row h.0 (h.1, h.2.cell) in
      record {
        done = release_committed v w h.0 was.done o;
        stays = was.stays;
        holds = subst (λ (hs : List Holding). HoldsWhole u c (targets c) (targets c) c.puts.items filled' hs) (sym (ap (λ (t : View). t.held) o.is))
            (node_dropped z u c planned b filled filled' fills (targets c) c.puts.items v.held o.held n was.holds made (subst (λ (d : Cell). release.Drops v.held d o.held) h.2.cell o.drops));
        late = ap (λ (t : View). t.committed) o.is ∙ was.late;
      }

  -- ---- a change is given up

  pub give_on : (i to : ℕ) (e : UpgradeFault) (x : Target) (v w : View) → i < to → GivesUp u c i to e v → target_at c i ≡ Some x → ((h : Holding) → IsHolding v x.stamp.cell h → release.Outcome v w h) → GivesUp u c (i + 1) to e w
  give_on i to e x v w low was at row =
      let h = was.holds.each i x (omega arith) low at in
      let o = row h.0 (h.1, h.2.cell) in
      record {
        failed = record {
          index = was.failed.index;
          target = was.failed.target;
          is = was.failed.is;
          fails = fails_on e was.failed.target o was.failed.fails;
          rest = ap (λ (t : View). rest_of (record t { held = u.held; committed = u.committed })) o.is ∙ was.failed.rest;
        };
        holds = subst (λ (hs : List Holding). HoldsWhole u c (i + 1) to [] (so_many 0 0) hs) (sym (ap (λ (t : View). t.held) o.is))
            (drop_holds z u c planned i to [] (so_many 0 0) v.held o.held was.holds x at low (subst (λ (d : Cell). release.Drops v.held d o.held) h.2.cell o.drops));
        early = λ less. ap (λ (t : View). t.committed) o.is ∙ was.early low;
      }
    where
      fails_on : (e : UpgradeFault) (x : Target) {h : Holding} → release.Outcome v w h → Fails u x e v → Fails u x e w
      fails_on (fault.Changed a) x o k = (k.0, k.1, k.2, ap (λ (t : View). t.failures) o.is ∙ k.3)
      fails_on (fault.Exhausted a) x o k = (k.0, k.1, ap (λ (t : View). t.failures) o.is ∙ k.2)

-- ---- the end

pub released_all : (u : View) (c : Change) (filled : Bool → ℕ) (v : View) → ((b : Bool) → filled b ≡ 0) → IsReleasing u c (targets c) filled v → IsOver u c (Ok tt) v
released_all u c filled v none was = record {
  free = none_held u c (targets c) c.puts.items filled v.held none was.holds;
  done = λ d e. was.done;
  failed = λ e k. absurd (cc);
}

pub given_up_all : (u : View) (c : Change) (to : ℕ) (e : UpgradeFault) (v : View) → GivesUp u c to to e v → IsOver u c (Err e) v
given_up_all u c to e v was = record {
  free = none_held u c to [] (so_many 0 0) v.held none_filled was.holds;
  done = λ d k. absurd (cc);
  failed = λ a k. let same : e ≡ a = cc in subst (λ (b : UpgradeFault). HasFailed u c b v) same was.failed;
}
