-- Why a way may be chosen; and what was chosen stays so while cells are read on.
use Rattle.std.proofs.Common.{◌≡◌, ◌≢◌, ◌≤◌, ℕ, true, false, List, Option, Some, None, inl, inr, ⊎_elim, refl, sym, ap, ◌∙◌, subst, arith}
use Rattle.std.specs.Option.{unwrap_or}
use Rattle.std.proofs.lemmas.Option.{same_Some}
use Rattle.art_cell.specs.Reads.{word_read}
use Rattle.art_cell.specs.declared.cells.Cell.{Cell}
use Rattle.art_cell.specs.declared.cells.Cell.TheVariants as cell
use Rattle.art_cell.specs.declared.cells.Link.{Link}
use Rattle.art_cell.specs.declared.cells.Node.{Node}
use Rattle.art_cell.specs.declared.cells.Layout.{Layout}
use Rattle.art_cell.specs.declared.cells.Pool.{Pool}
use Rattle.art_cell.specs.declared.cells.Pool.TheVariants.{Leaves}
use Rattle.art_plan.specs.ChooseRemove.Losses.{loss_at, loss_of}
use Rattle.art_plan.specs.ChooseRemove.Plans.{HasOther}
use Rattle.art_plan.specs.ChooseRemove.Seen.{IsSeen}
use Rattle.art_plan.specs.declared.choose_remove.Loss.{Loss}
use Rattle.art_plan.specs.declared.choose_remove.Loss.TheVariants as loss
use Rattle.art_attempt.specs.Trying.{StillTries, StoodAtCheck, at_check}
use Rattle.art_attempt.specs.declared.attempts.Room.{Room}
use Rattle.art_plan.specs.Apply.{KeepsCheck}
use Rattle.art_attempt.proofs.LastCheck.{none_stays, stood_stays}
use Rattle.art_attempt.specs.Reserve.{StayFound}
use Rattle.art_attempt.specs.Attempts.{GoesBy, IsExhausted, IsKnown, WantsNumbers}
use Rattle.art_attempt.specs.Cases.{HasLeaf, HasNoSmaller, IsCaseOf, IsChosen, IsNeverSeen, IsTold, IsWay, LeafGoes, LeavesOther, LocksChecked, MayStay, cells_of, demand_of, effects_of, leaves_by}
use Rattle.art_attempt.specs.declared.attempts.Job.{Job}
use Rattle.art_attempt.specs.declared.attempts.Job.TheVariants.{Insert, Remove}
use Rattle.art_attempt.specs.declared.attempts.Case.{Case}
use Rattle.art_attempt.specs.declared.attempts.Case.TheVariants as case
use Rattle.art_epoch.specs.declared.stocks.Stock.{Stock}
use Rattle.art_attempt.specs.Reserve.{HasNone}
use Rattle.art_attempt.specs.Naming.{KnowsHere}
use Rattle.art_attempt.specs.Validate.{HasJustChecked}
use Rattle.art_find.proofs.FoundPlaces.{standing_grows}
use Rattle.art_find.proofs.Keeping.{Grows}
use Rattle.art_find.specs.Findings.{IsStanding}
use Rattle.art_find.specs.ReadSets.{node_of}
use Rattle.art_find.specs.Kept.{StaysRead}
use Rattle.art_find.specs.Rereadings.{AreKnown}
use Rattle.art_find.specs.declared.read_sets.ReadSet.{ReadSet}
use Rattle.art_find.specs.declared.findings.Position.{Position}
use Rattle.art_plan.specs.Remove.Removals.{remove_effects}
use Rattle.art_plan.specs.declared.remove.OldLeaf.{OldLeaf}
use Rattle.art_step.specs.Views.{Member, pool_of_layout, size_of}
use Rattle.art_step.specs.declared.views.Note.{Note}
use Rattle.art_step.specs.declared.views.Sizes.{Sizes}
use Rattle.art_step.specs.declared.views.Stamp.{Stamp}
use Rattle.art_step.specs.declared.views.View.{View}

-- ---- what goes with the leaf

-- a node whose header was not read is taken for one that goes, so of another its header is known
by_word : (n : Node) (o p : Option ℕ) → ((word : ℕ) → o ≡ Some word → p ≡ Some word) → loss_of (cell.Node n) (unwrap_or o 0) ≢ loss.Merges
    → loss_of (cell.Node n) (unwrap_or p 0) ≡ loss_of (cell.Node n) (unwrap_or o 0)
by_word n (Some header) p stays other = ap (λ (q : Option ℕ). loss_of (cell.Node n) (unwrap_or q 0)) (stays header refl)
by_word n None p stays other = absurd (other refl)

by_cell : (c : Cell) (o p : Option ℕ) → ((word : ℕ) → o ≡ Some word → p ≡ Some word) → loss_of c (unwrap_or o 0) ≢ loss.Merges
    → loss_of c (unwrap_or p 0) ≡ loss_of c (unwrap_or o 0)
by_cell cell.Anchor o p stays other = refl
by_cell (cell.Leaf l) o p stays other = refl
by_cell (cell.Node n) o p stays other = by_word n o p stays other

module _ (t : Position) (read_set now : ReadSet) where
  pub loss_stays : StaysRead (node_of read_set) (node_of now) → loss_at t read_set ≢ loss.Merges → loss_at t now ≡ loss_at t read_set
  loss_stays stays other = by_cell t.stamp.cell (word_read (node_of read_set) 1) (word_read (node_of now) 1) (stays 1) other

  -- and once the header is known nothing tells otherwise
  pub loss_known : (header : ℕ) → word_read (node_of read_set) 1 ≡ Some header → StaysRead (node_of read_set) (node_of now) → loss_at t now ≡ loss_at t read_set
  loss_known header known stays = ap (λ (o : Option ℕ). loss_of t.stamp.cell (unwrap_or o 0)) (stays 1 header known ∙ sym known)

  module _ (same : node_of now ≡ node_of read_set) where
    pub loss_same : loss_at t now ≡ loss_at t read_set
    loss_same = ap (λ (reads : List (Option ℕ)). loss_of t.stamp.cell (unwrap_or (word_read reads 1) 0)) same

    pub knows_same : KnowsHere t read_set → KnowsHere t now
    knows_same known = subst (λ (reads : List (Option ℕ)). AreKnown reads 1 (size_of t.stamp.cell)) (sym same) known

    pub leaves_same : (z : Sizes) (old : OldLeaf) (byte : ℕ) (d : Link) → LeavesOther z t read_set old byte d → LeavesOther z t now old byte d
    leaves_same z old byte d leaves later is seen = leaves later (is ∙ same) seen

    never_same : (z : Sizes) (old : OldLeaf) → IsNeverSeen z t read_set old → IsNeverSeen z t now old
    never_same z old never later is seen = never later (is ∙ same) seen

  pub chosen_stays : (z : Sizes) (w : Case) (old : OldLeaf) (s : Stock) (u v : View) → StaysRead (node_of read_set) (node_of now) → (KnowsHere t read_set → node_of now ≡ node_of read_set) → IsChosen z w t read_set old s u v → IsChosen z w t now old s u v
  chosen_stays z case.NewLeaf old s u v stays node c = absurd c
  chosen_stays z case.DropLeaf old s u v stays node c =
      let kept : (l : Loss) → l ≢ loss.Merges → loss_at t read_set ≡ l → loss_at t now ≡ l = λ l other is. loss_stays stays (λ merges. other (sym is ∙ merges)) ∙ is in
      ⊎_elim
      (λ (is : loss_at t read_set ≡ loss.Leaf). inl (kept loss.Leaf (λ no. cc) is))
      (λ (k : HasNoSmaller z t read_set u v). inr (record { layout = k.layout; shrinks = kept (loss.Shrinks k.layout) (λ no. cc) k.shrinks; none = k.none }))
      c
  chosen_stays z (case.Shrink layout) old s u v stays node c =
      let other : loss_at t read_set ≢ loss.Merges = λ merges. let no : loss.Shrinks layout ≡ loss.Merges = sym c.0 ∙ merges in cc in
      (loss_stays stays other ∙ c.0, c.1)
  chosen_stays z (case.MergeLeaf other) old s u v stays node c =
      let same = node c.0 in
      (knows_same same c.0, (c.1.0, leaves_same same z old c.1.0 _ c.1.1))
  chosen_stays z (case.MergeNode l) old s u v stays node c =
      let same = node c.0 in
      (knows_same same c.0, leaves_same same z old l.byte _ c.1)
  chosen_stays z case.Torn old s u v stays node c = let same = node c.0 in (knows_same same c.0, never_same same z old c.1)

-- ---- what was found stays found

module _ (v w : View) (keeps : StayFound v w) where
  -- of a smaller node no word gave one, since an earlier view
  stays_later : (z : Sizes) (t : Position) (read_set : ReadSet) (u b : View) → u.steps ≤ b.steps → MayStay z t read_set b v → MayStay z t read_set u w
  stays_later z t read_set u b before may = ⊎_elim
      (λ (is : loss_at t read_set ≡ loss.Leaf). inl is)
      (λ (k : HasNoSmaller z t read_set b v).
      let n = k.none in
      let after = n.after in
      inr (record {
        layout = k.layout;
        shrinks = k.shrinks;
        none = record { wanted = n.wanted; since = n.since; after = omega (arith, before, after); none = none_stays v w keeps n.since (pool_of_layout k.layout) _ n.none };
      }))
      may

  pub chosen_later : (z : Sizes) (c : Case) (t : Position) (read_set : ReadSet) (old : OldLeaf) (s : Stock) (u : View) → IsChosen z c t read_set old s u v → IsChosen z c t read_set old s u w
  chosen_later z case.NewLeaf t read_set old s u c = c
  chosen_later z case.DropLeaf t read_set old s u c = stays_later z t read_set u u (omega arith) c
  chosen_later z (case.Shrink layout) t read_set old s u c = c
  chosen_later z (case.MergeLeaf other) t read_set old s u c = c
  chosen_later z (case.MergeNode l) t read_set old s u c = c
  chosen_later z case.Torn t read_set old s u c = c

  pub told_later : (z : Sizes) (c : Case) (t : Position) (read_set : ReadSet) (old : OldLeaf) (u b : View) → u.steps ≤ b.steps → IsTold z c t read_set old b v → IsTold z c t read_set old u w
  told_later z case.NewLeaf t read_set old u b before c = c
  told_later z case.DropLeaf t read_set old u b before c = stays_later z t read_set u b before c
  told_later z (case.Shrink layout) t read_set old u b before c = c
  told_later z (case.MergeLeaf other) t read_set old u b before c = c
  told_later z (case.MergeNode l) t read_set old u b before c = c
  told_later z case.Torn t read_set old u b before c = c

-- ---- a change goes by the way

module _ (z : Sizes) (u : View) (k : List ℕ) (t : Position) (read_set : ReadSet) where
  -- at a check that was just made the key stood where it stands
  pub stood_now : (early v : View) → StillTries u early → HasJustChecked early v → IsStanding z k t read_set v → StoodAtCheck z u k t read_set v
  stood_now early v base just standing =
      let before = base.later.steps in
      let after = just.after in
      let same : Grows v (at_check v) = record {
        stamps = λ x there. subst (λ (xs : List Stamp). Member x xs) (sym just.stamps) there;
        notes = λ y there. subst (λ (ys : List Note). Member y ys) (sym just.notes) there;
      } in
      record { after = omega (arith, before, after); done = just.done; standing = standing_grows z k t read_set v (at_check v) same standing }

-- ---- by cases

-- of an insert a leaf comes, of a removal it goes
pub case_comes : (j : Job) (c : Case) → j ≡ Insert → IsCaseOf j c → c ≡ case.NewLeaf
case_comes Insert case.NewLeaf is of = refl
case_comes Insert case.DropLeaf is of = absurd of
case_comes Insert (case.Shrink layout) is of = absurd of
case_comes Insert (case.MergeLeaf other) is of = absurd of
case_comes Insert (case.MergeNode l) is of = absurd of
case_comes Insert case.Torn is of = absurd of
case_comes Remove c is of = cc

pub comes_insert : (j : Job) (c : Case) → c ≡ case.NewLeaf → IsCaseOf j c → j ≡ Insert
comes_insert Insert c is of = refl
comes_insert Remove case.NewLeaf is of = absurd of
comes_insert Remove case.DropLeaf is of = cc
comes_insert Remove (case.Shrink layout) is of = cc
comes_insert Remove (case.MergeLeaf other) is of = cc
comes_insert Remove (case.MergeNode l) is of = cc
comes_insert Remove case.Torn is of = cc

pub goes_remove : (j : Job) (c : Case) → IsCaseOf Remove c → IsCaseOf j c → j ≡ Remove
goes_remove Remove c goes of = refl
goes_remove Insert case.NewLeaf goes of = absurd goes
goes_remove Insert case.DropLeaf goes of = absurd of
goes_remove Insert (case.Shrink layout) goes of = absurd of
goes_remove Insert (case.MergeLeaf other) goes of = absurd of
goes_remove Insert (case.MergeNode l) goes of = absurd of
goes_remove Insert case.Torn goes of = absurd of

module _ (z : Sizes) (u : View) (t : Position) (r : Room) (v : View) where
  pub leaf_way : (c : Case) → IsCaseOf Remove c → LeafGoes z u c t r v → IsWay z u c t r v
  leaf_way case.NewLeaf goes way = absurd goes
  leaf_way case.DropLeaf goes way = way
  leaf_way (case.Shrink layout) goes way = way
  leaf_way (case.MergeLeaf other) goes way = way
  leaf_way (case.MergeNode l) goes way = way
  leaf_way case.Torn goes way = way

  pub leaf_effects : (c : Case) → IsCaseOf Remove c → effects_of c t r.row r.gone ≡ remove_effects r.gone (leaves_by c t)
  leaf_effects case.NewLeaf goes = absurd goes
  leaf_effects case.DropLeaf goes = refl
  leaf_effects (case.Shrink layout) goes = refl
  leaf_effects (case.MergeLeaf other) goes = refl
  leaf_effects (case.MergeNode l) goes = refl
  leaf_effects case.Torn goes = refl

  -- no node below is validated where numbers are wanted
  pub none_below : (c : Case) → WantsNumbers z u c t r v → (cells_of c t.verdict).lower ≡ None
  none_below case.NewLeaf w = refl
  none_below case.DropLeaf w = absurd w
  none_below (case.Shrink layout) w = refl
  none_below (case.MergeLeaf other) w = absurd w
  none_below (case.MergeNode l) w = absurd w
  none_below case.Torn w = absurd w

  -- whatever numbers are in hand
  pub wants_same : (c : Case) (stock : Stock) → WantsNumbers z u c t r v → WantsNumbers z u c t (record r { stock = stock }) v
  wants_same case.NewLeaf stock w = record { stood = w.stood; checked = w.checked; comes = w.comes }
  wants_same case.DropLeaf stock w = absurd w
  wants_same (case.Shrink layout) stock w = (record { found = w.0.found; key = w.0.key }, w.1)
  wants_same (case.MergeLeaf other) stock w = absurd w
  wants_same (case.MergeNode l) stock w = absurd w
  wants_same case.Torn stock w = absurd w

-- what was found stays known while words are read
module _ (z : Sizes) (u : View) (t : Position) (r : Room) (read_set : ReadSet) (lower : List (Option ℕ)) (v w : View) (found : StayFound v w) (stays : StaysRead (node_of r.read_set) (node_of read_set))
    (node : KnowsHere t r.read_set → node_of read_set ≡ node_of r.read_set) where
  abbrev then : Room
  then = record r { read_set = read_set; lower = lower }

  leaf_known : (c : Case) → HasLeaf t r × IsChosen z c t r.read_set r.gone r.stock u v → HasLeaf t then × IsChosen z c t read_set r.gone r.stock u w
  leaf_known c k =
      (record { found = k.0.found; key = k.0.key }, chosen_stays t r.read_set read_set z c r.gone r.stock u w stays node (chosen_later v w found z c t r.read_set r.gone r.stock u k.1))

  pub known_on : (c : Case) → IsKnown z u c t r v → IsKnown z u c t then w
  known_on case.NewLeaf k = k
  known_on case.DropLeaf k = leaf_known case.DropLeaf k
  known_on (case.Shrink layout) k = leaf_known (case.Shrink layout) k
  known_on (case.MergeLeaf other) k = leaf_known (case.MergeLeaf other) k
  known_on (case.MergeNode l) k = leaf_known (case.MergeNode l) k
  known_on case.Torn k = leaf_known case.Torn k

module _ (z : Sizes) (u : View) (t : Position) where
  -- it went so since an earlier view too, whatever numbers are in hand, and still does until the next check
  module _ (b : View) (r : Room) (stock : Stock) (v w : View) (before : u.steps ≤ b.steps) (more : v.steps ≤ w.steps) (found : StayFound v w) (checked : w.checked ≡ v.checked) where
    abbrev had : Room
    had = record r { stock = stock }

    leaf_since : (c : Case) → LeafGoes z b c t had v → LeafGoes z u c t r w
    leaf_since c goes = record {
      leaf = record { found = goes.leaf.found; key = goes.leaf.key };
      stood = stood_stays v w checked z u b r.row.key.items t r.read_set before more goes.stood;
      told = told_later v w found z c t r.read_set r.gone u b before goes.told;
      locks = goes.locks;
    }

    way_since : (c : Case) → IsWay z b c t had v → IsWay z u c t r w
    way_since case.NewLeaf way = record { stood = stood_stays v w checked z u b r.row.key.items t r.read_set before more way.stood; comes = way.comes }
    way_since case.DropLeaf way = leaf_since case.DropLeaf way
    way_since (case.Shrink layout) way = leaf_since (case.Shrink layout) way
    way_since (case.MergeLeaf other) way = leaf_since (case.MergeLeaf other) way
    way_since (case.MergeNode l) way = leaf_since (case.MergeNode l) way
    way_since case.Torn way = leaf_since case.Torn way

    pub goes_since : (c : Case) → GoesBy z b t c had v → GoesBy z u t c r w
    goes_since c goes = record { told = way_since c goes.told; effects = goes.effects }

    -- and so does a cell that would be locked
    locks_since : (c : Case) (x : Stamp) → LocksChecked b c t v x → LocksChecked u c t w x
    locks_since c x locks =
        let after = locks.checked.after in
        let done = locks.checked.done in
        record {
          by = locks.by;
          checked = record { step = locks.checked.step; after = omega (arith, before, after); done = omega (arith, done, more); found = found _ locks.checked.found };
        }

    pub exhausted_since : (j : Job) (c : Case) (x : Cell) → IsExhausted z b j t c had x v → IsExhausted z u j t c r x w
    exhausted_since j c x e = record {
      case = e.case;
      deed = e.deed;
      goes = goes_since c e.goes;
      index = e.index;
      target = e.target;
      is = e.is;
      cell_is = e.cell_is;
      at_end = e.at_end;
      locks = locks_since c e.target.stamp e.locks;
    }

  pub goes_later : (c : Case) (r : Room) (v w : View) → KeepsCheck v w → GoesBy z u t c r v → GoesBy z u t c r w
  goes_later c r v w keeps goes = goes_since u r r.stock v w (omega arith) keeps.steps keeps.found keeps.checked c goes

-- ---- where no smaller node was found

pub no_smaller : (z : Sizes) (t : Position) (layout : Layout) (read_set : ReadSet) (u early v : View) (pool : Pool) → loss_at t read_set ≡ loss.Shrinks layout → StillTries u early
    → HasNone z (demand_of z (case.Shrink layout) t.verdict) pool early v → HasNoSmaller z t read_set u v
no_smaller z t layout read_set u early v pool shrinks base none =
    let is : pool ≡ pool_of_layout layout = ⊎_elim
    (λ (k : (pool ≡ Leaves) × (false ≡ true)). let no : false ≡ true = k.1 in cc)
    (λ (k : (other : Layout) × (Some layout ≡ Some other) × (pool ≡ pool_of_layout other)). k.2 ∙ ap pool_of_layout (sym (same_Some layout k.0 k.1)))
    none.wanted in
    let after : u.steps ≤ none.since = (let later = base.later.steps in let since = none.after in omega (arith, later, since)) in
    let found : HasNone z (demand_of z (case.Shrink layout) t.verdict) pool u v = record { wanted = none.wanted; since = none.since; after = after; none = none.none } in
    record { layout = layout; shrinks = shrinks; none = subst (λ (p : Pool). HasNone z (demand_of z (case.Shrink layout) t.verdict) p u v) is found }

-- ---- which child the node keeps

-- what the words that were read tell of the other child, in each read set with the same words of the node
abbrev pub TellsOther : Sizes → Position → ReadSet → OldLeaf → Option (ℕ × Link) → Type 0
TellsOther z t read_set old o = (later : ReadSet) → node_of later ≡ node_of read_set → IsSeen z old.key.items t later → loss_at t later ≡ loss.Merges
    → (beside : ℕ) × (d : Link) × (o ≡ Some (beside, d)) × HasOther t later old beside d

module _ (z : Sizes) (t : Position) (read_set : ReadSet) (old : OldLeaf) (merges : loss_at t read_set ≡ loss.Merges) where
  pub none_left : (o : Option (ℕ × Link)) → o ≡ None → TellsOther z t read_set old o → IsNeverSeen z t read_set old
  none_left o none tells later same seen =
      let k = tells later same seen (loss_same t read_set later same ∙ merges) in
      let no : None ≡ Some (k.0, k.1) = sym none ∙ k.2 in
      cc

  pub one_left : (o : Option (ℕ × Link)) (byte : ℕ) (d : Link) → o ≡ Some (byte, d) → TellsOther z t read_set old o → LeavesOther z t read_set old byte d
  one_left o byte d is tells later same seen =
      let k = tells later same seen (loss_same t read_set later same ∙ merges) in
      let one : (k.0, k.1) ≡ (byte, d) = same_Some {A = ℕ × Link} (k.0, k.1) (byte, d) (sym k.2 ∙ is) in
      subst (λ (p : ℕ × Link). HasOther t later old p.0 p.1) one k.3

-- ---- a node that goes

merges_in : (c : Cell) (header : ℕ) → loss_of c header ≡ loss.Merges → (n : Node) × (c ≡ cell.Node n)
merges_in (cell.Node n) header is = (n, refl)
merges_in cell.Anchor header is = cc
merges_in (cell.Leaf l) header is = cc

pub merges_node : (t : Position) (read_set : ReadSet) → loss_at t read_set ≡ loss.Merges → (n : Node) × (t.stamp.cell ≡ cell.Node n)
merges_node t read_set is = merges_in t.stamp.cell (unwrap_or (word_read (node_of read_set) 1) 0) is
