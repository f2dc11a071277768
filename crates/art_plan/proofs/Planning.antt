-- Plans of one target, of two and of three, and what a new leaf and a new node need.
use Rattle.std.proofs.Common.{◌≡◌, ◌≢◌, ◌⊎◌, ◌↔◌, ℕ, zero, suc, true, false, List, [], ◌∷◌, map, Option, Some, None, refl, sym, ap, ◌∙◌, subst, inl, inr, ⊎_elim, arith}
use Rattle.std.proofs.lemmas.Option.{same_Some}
use Rattle.std.specs.List.{cons_option, slice_get}
use Rattle.art_cell.specs.Bodies.{IsBody}
use Rattle.art_cell.specs.Children.{child_word}
use Rattle.art_cell.specs.Reads.{word_of}
use Rattle.art_cell.specs.Words.{child_of}
use Rattle.art_cell.specs.declared.cells.Body.{Body}
use Rattle.art_cell.specs.declared.cells.Cell.TheVariants as cell
use Rattle.art_cell.specs.declared.cells.Link.{Link}
use Rattle.art_cell.specs.declared.cells.Link.TheVariants.{Leaf as leaf, Node as node}
use Rattle.art_cell.specs.declared.cells.Node.{Node}
use Rattle.art_commit.specs.AnyChange.{SameMembers}
use Rattle.art_commit.specs.CommitLaws.{HasNode}
use Rattle.art_cell.specs.declared.cells.Write.{Write}
use Rattle.art_plan.specs.Puts.{change_of}
use Rattle.art_plan.specs.Changes.{IsPlanned, IsReady, MayMake, MayPut, MayTarget, leaf_linked, node_made, unlinked}
use Rattle.art_plan.specs.Seen.{kept}
use Rattle.art_plan.specs.declared.changes.Change.{Change}
use Rattle.art_plan.specs.declared.changes.Put.{Put}
use Rattle.art_plan.specs.declared.changes.Target.{Target}
use Rattle.art_step.specs.Steps.Commit as commit
use Rattle.art_step.specs.Steps.Release.{IsNodeAmong}
use Rattle.art_step.specs.Tokens.{links_of}
use Rattle.art_step.specs.Views.{Member}
use Rattle.art_step.specs.declared.deeds.Deed.{Deed}
use Rattle.art_step.specs.declared.views.Sizes.{Sizes}
use Rattle.art_step.specs.declared.views.Stamp.{Stamp}
use Rattle.art_step.specs.declared.views.View.{View}
use Rattle.art_tree.proofs.ChildWords.{link_back}
use Rattle.art_tree.specs.WordChanges.{FitsWord}
use Rattle.art_plan.proofs.ChildPlaces.{NameThere}
use Rattle.art_plan.proofs.BodyForms.{node_forms}
use Rattle.art_plan.proofs.ReadyCells.{comes}

-- ---- lists

pub get_member : {A : Type 0} (xs : List A) (i : ℕ) (x : A) → slice_get xs i ≡ Some x → Member x xs
get_member [] i x e = absurd (cc)
get_member (y ∷ ys) zero x e = inl (sym (same_Some y x e))
get_member (y ∷ ys) (suc i) x e = inr (get_member ys i x e)

-- the one of one, and one of two
pub one_of_one : {A : Type 0} (y : A) (i : ℕ) (x : A) → slice_get (y ∷ []) i ≡ Some x → (i ≡ 0) × (y ≡ x)
one_of_one y zero x e = (refl, same_Some y x e)
one_of_one y (suc i) x e = absurd (cc)

pub one_of_two : {A : Type 0} (y w : A) (i : ℕ) (x : A) → slice_get (y ∷ w ∷ []) i ≡ Some x → ((i ≡ 0) × (y ≡ x)) ⊎ ((i ≡ 1) × (w ≡ x))
one_of_two y w zero x e = inl (refl, same_Some y x e)
one_of_two y w (suc zero) x e = inr (refl, same_Some w x e)
one_of_two y w (suc (suc i)) x e = absurd (cc)

-- one of three
abbrev pub IsOneOf : {A : Type 0} → A → A → A → ℕ → A → Type 0
IsOneOf y w q i x = ((i ≡ 0) × (y ≡ x)) ⊎ (((i ≡ 1) × (w ≡ x)) ⊎ ((i ≡ 2) × (q ≡ x)))

pub one_of_three : {A : Type 0} (y w q : A) (i : ℕ) (x : A) → slice_get (y ∷ w ∷ q ∷ []) i ≡ Some x → IsOneOf y w q i x
one_of_three y w q zero x e = inl (refl, same_Some y x e)
one_of_three y w q (suc zero) x e = inr (inl (refl, same_Some w x e))
one_of_three y w q (suc (suc zero)) x e = inr (inr (refl, same_Some q x e))
one_of_three y w q (suc (suc (suc i))) x e = absurd (cc)

-- ---- what comes

-- the new node may be made
pub may_make : (z : Sizes) (u : View) (c : Change) (m : Node) → node_made c ≡ Some m → HasNode z u m → IsBody m.layout (word_of c.body) → NameThere z (child_of m.layout (word_of c.body))
    → (n : Node) → node_made c ≡ Some n → MayMake z u c n
may_make z u c m made has meaning names n is = subst (MayMake z u c) (same_Some m n (sym made ∙ is)) (record {
  inside = has.number;
  hand = (has.hand, has.has, has.link);
  forms = node_forms z m m.layout (word_of c.body) refl meaning names;
})

module _ (z : Sizes) (u v : View) (c : Change) (ready : IsReady u c v) (l : ℕ) (linked : leaf_linked c ≡ Some (leaf l)) where
  -- a leaf comes alone
  pub leaf_comes : node_made c ≡ None → SameMembers (leaf l ∷ []) (commit.coming v (leaf_linked c))
  leaf_comes none = comes z u v c ready (leaf l ∷ []) (λ d. (
    ⊎_elim (λ (e : d ≡ leaf l). inl (linked ∙ ap Some (sym e))) (λ (j : ⊥). absurd j),
    ⊎_elim
        (λ (e : leaf_linked c ≡ Some d). inl (sym (same_Some (leaf l) d (sym linked ∙ e))))
        (λ (m : (n : Node) × (d ≡ node n) × (node_made c ≡ Some n)). let e : None ≡ Some m.0 = sym none ∙ m.2 in absurd (cc)),
  ))

  -- or with a node
  module _ (m : Node) (made : node_made c ≡ Some m) where
    pub both_come : SameMembers (leaf l ∷ node m ∷ []) (commit.coming v (leaf_linked c))
    both_come = comes z u v c ready (leaf l ∷ node m ∷ []) (λ d. (
      ⊎_elim
          (λ (e : d ≡ leaf l). inl (linked ∙ ap Some (sym e)))
          (⊎_elim (λ (e : d ≡ node m). inr (m, e, made)) (λ (j : ⊥). absurd j)),
      ⊎_elim
          (λ (e : leaf_linked c ≡ Some d). inl (sym (same_Some (leaf l) d (sym linked ∙ e))))
          (λ (n : (o : Node) × (d ≡ node o) × (node_made c ≡ Some o)). inr (inl (n.1 ∙ ap node (same_Some n.0 m (sym n.2 ∙ made))))),
    ))

module _ (z : Sizes) (u v : View) (c : Change) (ready : IsReady u c v) (linked : leaf_linked c ≡ None) where
  -- nothing comes
  pub none_come : node_made c ≡ None → SameMembers [] (commit.coming v (leaf_linked c))
  none_come none = comes z u v c ready [] (λ d. (
    (λ i. absurd i),
    ⊎_elim
        (λ (e : leaf_linked c ≡ Some d). let f : None ≡ Some d = sym linked ∙ e in absurd (cc))
        (λ (m : (n : Node) × (d ≡ node n) × (node_made c ≡ Some n)). let e : None ≡ Some m.0 = sym none ∙ m.2 in absurd (cc)),
  ))

  -- a node comes alone
  pub node_comes : (m : Node) → node_made c ≡ Some m → SameMembers (node m ∷ []) (commit.coming v (leaf_linked c))
  node_comes m made = comes z u v c ready (node m ∷ []) (λ d. (
    ⊎_elim (λ (e : d ≡ node m). inr (m, e, made)) (λ (j : ⊥). absurd j),
    ⊎_elim
        (λ (e : leaf_linked c ≡ Some d). let f : None ≡ Some d = sym linked ∙ e in absurd (cc))
        (λ (n : (o : Node) × (d ≡ node o) × (node_made c ≡ Some o)). inl (n.1 ∙ ap node (same_Some n.0 m (sym n.2 ∙ made)))),
  ))

-- ---- plans

-- what one of the targets' puts are, by their indices
puts_by : (z : Sizes) (c : Change) (ps : List Put) → ((p : Put) → Member p ps → MayPut z c p) → (j : ℕ) (p : Put) → slice_get ps j ≡ Some p → MayPut z c p
puts_by z c ps may j p is = may p (get_member ps j p is)

-- a target that is no node that goes may stay
stays : (y : Stamp) (us : List ℕ) → ((m : Node) → Member (node m) (links_of us) → y.cell ≢ cell.Node m) → (false ≡ true) ↔ IsNodeAmong y.cell (λ d. Member d (links_of us))
stays y us other = ((λ e. absurd (cc)), (λ a. absurd (other a.0 a.2 a.1)))

-- no node goes
abbrev pub NoNodeGoes : List ℕ → Type 0
NoNodeGoes us = (m : Node) → Member (node m) (links_of us) → ⊥

-- no node goes but this one
abbrev pub OnlyGoes : Node → List ℕ → Type 0
OnlyGoes n us = (m : Node) → Member (node m) (links_of us) → m ≡ n

apart_from : (y : Stamp) (n : Node) (us : List ℕ) → y.cell ≢ cell.Node n → OnlyGoes n us → (m : Node) → Member (node m) (links_of us) → y.cell ≢ cell.Node m
apart_from y n us other only m i e = other (e ∙ ap cell.Node (only m i))

-- the commit of a change that is ready
abbrev MayCommit : Sizes → View → Change → Type 0
MayCommit z u c = (v : View) → IsReady u c v → commit.May z v c.effects.deed (unlinked c) (commit.coming v (leaf_linked c))

module _ (z : Sizes) (u : View) (x : Stamp) (ps : List Put) (ws : List Write) (made : Option ℕ) (body : Body) (l : Option ℕ) (us : List ℕ) (deed : Deed) where
  -- one cell is locked, and no node goes
  abbrev one_target : Change
  one_target = change_of (kept x ∷ []) ps ws made body l us deed

  pub one_planned : MayTarget z u (kept x) → map child_word (links_of us) ≡ us → NoNodeGoes us
      → ((p : Put) → Member p ps → MayPut z one_target p) → ((n : Node) → node_made one_target ≡ Some n → MayMake z u one_target n) → MayCommit z u one_target → IsPlanned z u one_target
  one_planned target words none puts makes may = record {
    plain = refl;
    some = omega arith;
    each = λ i t is. subst (MayTarget z u) (one_of_one (kept x) i t is).1 target;
    apart = λ i j t w is at e. (one_of_one (kept x) i t is).0 ∙ sym (one_of_one (kept x) j w at).0;
    puts = puts_by z one_target ps puts;
    new = makes;
    words = words;
    obsolete = λ i t is. subst (λ (y : Target). (y.obsolete ≡ true) ↔ IsNodeAmong y.stamp.cell (λ d. Member d (links_of us))) (one_of_one (kept x) i t is).1
        (stays x us (λ m i e. none m i));
    gone = λ n m. absurd (none n m);
    may = may;
  }

module _ (z : Sizes) (u : View) (x : Stamp) (w : Target) (n : Node) (ps : List Put) (ws : List Write) (made : Option ℕ) (body : Body) (l : Option ℕ) (us : List ℕ) (deed : Deed) where
  -- a target that is a node, which goes where it is to be obsolete
  goes_or_stays : w.stamp.cell ≡ cell.Node n → ((w.obsolete ≡ true) ↔ Member (node n) (links_of us)) → OnlyGoes n us → (w.obsolete ≡ true) ↔ IsNodeAmong w.stamp.cell (λ d. Member d (links_of us))
  goes_or_stays at goes only = (
    (λ e. (n, at, goes.0 e)),
    (λ a. goes.1 (subst (λ (m : Node). Member (node m) (links_of us)) (only a.0 a.2) a.2)),
  )

  -- two cells are locked, the lower of which is a node
  abbrev two_targets : Change
  two_targets = change_of (kept x ∷ w ∷ []) ps ws made body l us deed

  pub two_planned : MayTarget z u (kept x) → MayTarget z u w → w.stamp.cell ≡ cell.Node n → x.cell ≢ cell.Node n → map child_word (links_of us) ≡ us
      → ((w.obsolete ≡ true) ↔ Member (node n) (links_of us)) → OnlyGoes n us
      → ((p : Put) → Member p ps → MayPut z two_targets p) → ((m : Node) → node_made two_targets ≡ Some m → MayMake z u two_targets m) → MayCommit z u two_targets → IsPlanned z u two_targets
  two_planned upper lower at other words goes only puts makes may = record {
    plain = refl;
    some = omega arith;
    each = λ i t is. ⊎_elim
        (λ (o : (i ≡ 0) × (kept x ≡ t)). subst (MayTarget z u) o.1 upper)
        (λ (o : (i ≡ 1) × (w ≡ t)). subst (MayTarget z u) o.1 lower)
        (one_of_two (kept x) w i t is);
    apart = λ i j t y is that e. apart i j t y (one_of_two (kept x) w i t is) (one_of_two (kept x) w j y that) e;
    puts = puts_by z two_targets ps puts;
    new = makes;
    words = words;
    obsolete = λ i t is. ⊎_elim
        (λ (o : (i ≡ 0) × (kept x ≡ t)). subst (λ (y : Target). (y.obsolete ≡ true) ↔ IsNodeAmong y.stamp.cell (λ d. Member d (links_of us))) o.1 (stays x us (apart_from x n us other only)))
        (λ (o : (i ≡ 1) × (w ≡ t)). subst (λ (y : Target). (y.obsolete ≡ true) ↔ IsNodeAmong y.stamp.cell (λ d. Member d (links_of us))) o.1 (goes_or_stays at goes only))
        (one_of_two (kept x) w i t is);
    gone = λ m i. (1, w, refl, at ∙ ap cell.Node (sym (only m i)));
    may = may;
  }
    where
      apart : (i j : ℕ) (t y : Target) → ((i ≡ 0) × (kept x ≡ t)) ⊎ ((i ≡ 1) × (w ≡ t)) → ((j ≡ 0) × (kept x ≡ y)) ⊎ ((j ≡ 1) × (w ≡ y)) → t.stamp.cell ≡ y.stamp.cell → i ≡ j
      apart i j t y (inl a) (inl b) e = a.0 ∙ sym b.0
      apart i j t y (inr a) (inr b) e = a.0 ∙ sym b.0
      apart i j t y (inl a) (inr b) e = absurd (other (ap (λ (q : Target). q.stamp.cell) a.1 ∙ e ∙ sym (ap (λ (q : Target). q.stamp.cell) b.1) ∙ at))
      apart i j t y (inr a) (inl b) e = absurd (other (ap (λ (q : Target). q.stamp.cell) b.1 ∙ sym e ∙ sym (ap (λ (q : Target). q.stamp.cell) a.1) ∙ at))

  module _ (y : Stamp) where
    -- three cells are locked, the one in the middle a node, and the one below it stays
    abbrev three_targets : Change
    three_targets = change_of (kept x ∷ w ∷ kept y ∷ []) ps ws made body l us deed

    pub three_planned : MayTarget z u (kept x) → MayTarget z u w → MayTarget z u (kept y) → w.stamp.cell ≡ cell.Node n → x.cell ≢ cell.Node n → y.cell ≢ cell.Node n → x.cell ≢ y.cell → map child_word (links_of us) ≡ us
        → ((w.obsolete ≡ true) ↔ Member (node n) (links_of us)) → OnlyGoes n us
        → ((p : Put) → Member p ps → MayPut z three_targets p) → ((m : Node) → node_made three_targets ≡ Some m → MayMake z u three_targets m) → MayCommit z u three_targets → IsPlanned z u three_targets
    three_planned upper middle lower at other below ends words goes only puts makes may = record {
      plain = refl;
      some = omega arith;
      each = λ i t is. each i t (one_of_three (kept x) w (kept y) i t is);
      apart = λ i j t q is that e. apart i j t q (one_of_three (kept x) w (kept y) i t is) (one_of_three (kept x) w (kept y) j q that) e;
      puts = puts_by z three_targets ps puts;
      new = makes;
      words = words;
      obsolete = λ i t is. obsolete i t (one_of_three (kept x) w (kept y) i t is);
      gone = λ m i. (1, w, refl, at ∙ ap cell.Node (sym (only m i)));
      may = may;
    }
      where
        each : (i : ℕ) (t : Target) → IsOneOf (kept x) w (kept y) i t → MayTarget z u t
        each i t (inl a) = subst (MayTarget z u) a.1 upper
        each i t (inr (inl a)) = subst (MayTarget z u) a.1 middle
        each i t (inr (inr a)) = subst (MayTarget z u) a.1 lower

        obsolete : (i : ℕ) (t : Target) → IsOneOf (kept x) w (kept y) i t → (t.obsolete ≡ true) ↔ IsNodeAmong t.stamp.cell (λ d. Member d (links_of us))
        obsolete i t (inl a) = subst (λ (q : Target). (q.obsolete ≡ true) ↔ IsNodeAmong q.stamp.cell (λ d. Member d (links_of us))) a.1 (stays x us (apart_from x n us other only))
        obsolete i t (inr (inl a)) = subst (λ (q : Target). (q.obsolete ≡ true) ↔ IsNodeAmong q.stamp.cell (λ d. Member d (links_of us))) a.1 (goes_or_stays at goes only)
        obsolete i t (inr (inr a)) = subst (λ (q : Target). (q.obsolete ≡ true) ↔ IsNodeAmong q.stamp.cell (λ d. Member d (links_of us))) a.1 (stays y us (apart_from y n us below only))

        -- the cells of two targets that are one target's
        both : (a b t q : Target) → a ≡ t → b ≡ q → t.stamp.cell ≡ q.stamp.cell → a.stamp.cell ≡ b.stamp.cell
        both a b t q one two e = ap (λ (o : Target). o.stamp.cell) one ∙ e ∙ sym (ap (λ (o : Target). o.stamp.cell) two)

        apart : (i j : ℕ) (t q : Target) → IsOneOf (kept x) w (kept y) i t → IsOneOf (kept x) w (kept y) j q → t.stamp.cell ≡ q.stamp.cell → i ≡ j
        apart i j t q (inl a) (inl b) e = a.0 ∙ sym b.0
        apart i j t q (inl a) (inr (inl b)) e = absurd (other (both (kept x) w t q a.1 b.1 e ∙ at))
        apart i j t q (inl a) (inr (inr b)) e = absurd (ends (both (kept x) (kept y) t q a.1 b.1 e))
        apart i j t q (inr (inl a)) (inl b) e = absurd (other (sym (both w (kept x) t q a.1 b.1 e) ∙ at))
        apart i j t q (inr (inl a)) (inr (inl b)) e = a.0 ∙ sym b.0
        apart i j t q (inr (inl a)) (inr (inr b)) e = absurd (below (sym (both w (kept y) t q a.1 b.1 e) ∙ at))
        apart i j t q (inr (inr a)) (inl b) e = absurd (ends (sym (both (kept y) (kept x) t q a.1 b.1 e)))
        apart i j t q (inr (inr a)) (inr (inl b)) e = absurd (below (both (kept y) w t q a.1 b.1 e ∙ at))
        apart i j t q (inr (inr a)) (inr (inr b)) e = a.0 ∙ sym b.0

-- the link of its child word is the node's
pub one_unlinked : (d : Link) → FitsWord d → links_of (child_word d ∷ []) ≡ d ∷ []
one_unlinked d fits = ap (λ (o : Option Link). cons_option o []) (link_back d fits)
