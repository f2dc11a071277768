-- What is held, as one cell more is locked, a word is put, or a cell is released.
use Rattle.std.proofs.Common.{◌≡◌, ◌≢◌, ◌⊎◌, Bool, true, false, ℕ, ◌+◌, ◌<◌, ◌≤◌, ◌==◌, if◌then◌else◌, List, [], ◌∷◌, ◌++◌, length, take, set, get_or, inl, inr, ⊎_elim, sym, refl, suc, ap, ◌∙◌, subst, arith, cond, eq-eqb, ne_eqb, length-set, get_or-set_same, get_or-set_other}
use Rattle.std.proofs.Math.Seq.{take-suc}
use Rattle.std.proofs.lemmas.Bool.{cases_eq}
use Rattle.std.proofs.lemmas.Option.{get_or_from_slice_get, same_Some, slice_get_within}
use Rattle.std.specs.Prelude.{Some}
use Rattle.art_cell.specs.Words.{size}
use Rattle.art_cell.specs.declared.cells.Cell.{Cell}
use Rattle.art_cell.specs.declared.cells.Cell.TheVariants as cell
use Rattle.art_cell.specs.declared.cells.Link.TheVariants.{Node as node}
use Rattle.art_cell.specs.declared.cells.Node.{Node}
use Rattle.art_plan.specs.Changes.{IsLocked, IsTarget, put_at, target_at, targets, unlinked, with_puts}
use Rattle.art_plan.specs.Whole.{HoldsWhole, IsFilledBy, IsNewBy, IsWhole, made_at, made_word}
use Rattle.art_plan.specs.Apply.{so_many}
use Rattle.art_plan.specs.declared.changes.Change.{Change}
use Rattle.art_plan.specs.declared.changes.Put.{Put}
use Rattle.art_plan.specs.declared.changes.Target.{Target}
use Rattle.art_step.specs.Steps.Release.{Drops}
use Rattle.art_step.specs.Steps.Write.{Puts, with_word}
use Rattle.art_step.specs.Views.{Member}
use Rattle.art_step.specs.declared.views.Holding.{Holding}
use Rattle.art_step.specs.declared.views.Sizes.{Sizes}
use Rattle.art_step.specs.declared.views.View.{View}

-- ---- lists

pub no_members : {A : Type 0} (xs : List A) → ((x : A) → Member x xs → ⊥) → xs ≡ []
no_members [] none = refl
no_members (x ∷ xs) none = absurd (none x (inl refl))

-- a target has an index below their number
pub target_low : (c : Change) (i : ℕ) (x : Target) → target_at c i ≡ Some x → i < targets c
target_low c i x at = slice_get_within c.targets.items i x at

pub same_target : (c : Change) (i : ℕ) (x y : Target) → target_at c i ≡ Some x → target_at c i ≡ Some y → x ≡ y
same_target c i x y at here = same_Some x y (sym at ∙ here)

-- ---- words that are put

-- one more
pub puts_more : (i : ℕ) (ps : List Put) (p : Put) (ws : List ℕ) → with_puts i (ps ++ p ∷ []) ws ≡ (if p.target == i then set (with_puts i ps ws) p.place p.value else with_puts i ps ws)
puts_more i [] p ws = refl
puts_more i (q ∷ ps) p ws = puts_more i ps p (if q.target == i then set ws q.place q.value else ws)

take_put : (c : Change) (j : ℕ) (p : Put) → put_at c j ≡ Some p → take (j + 1) c.puts.items ≡ take j c.puts.items ++ p ∷ []
take_put c j p at =
    let low : j < length c.puts.items = slice_get_within c.puts.items j p at in
    let next : j + 1 ≡ suc j = omega arith in
    ap (λ (n : ℕ). take n c.puts.items) next ∙ (take-suc c.puts.items j p low ∙ ap (λ (q : Put). take j c.puts.items ++ q ∷ []) (get_or_from_slice_get c.puts.items j p p at))

-- into the target with the index, or into another
put_here : (c : Change) (j : ℕ) (p : Put) (ws : List ℕ) → put_at c j ≡ Some p → with_puts p.target (take (j + 1) c.puts.items) ws ≡ set (with_puts p.target (take j c.puts.items) ws) p.place p.value
put_here c j p ws at = ap (λ (ps : List Put). with_puts p.target ps ws) (take_put c j p at)
    ∙ (puts_more p.target (take j c.puts.items) p ws ∙ ap (λ (b : _). cond b (set (with_puts p.target (take j c.puts.items) ws) p.place p.value) (with_puts p.target (take j c.puts.items) ws)) (eq-eqb p.target p.target refl))

put_there : (c : Change) (j i : ℕ) (p : Put) (ws : List ℕ) → put_at c j ≡ Some p → p.target ≢ i → with_puts i (take (j + 1) c.puts.items) ws ≡ with_puts i (take j c.puts.items) ws
put_there c j i p ws at other = ap (λ (ps : List Put). with_puts i ps ws) (take_put c j p at)
    ∙ (puts_more i (take j c.puts.items) p ws ∙ ap (λ (b : _). cond b (set (with_puts i (take j c.puts.items) ws) p.place p.value) (with_puts i (take j c.puts.items) ws)) (ne_eqb p.target i other))

-- ---- one cell is held once

abbrev pub IsSingle : List Holding → Type 0
IsSingle hs = (h k : Holding) → Member h hs → Member k hs → h.cell ≡ k.cell → h ≡ k

-- one more
pub single_more : (hs : List Holding) (h : Holding) → IsSingle hs → ((k : Holding) → Member k hs → k.cell ≢ h.cell) → IsSingle (h ∷ hs)
single_more hs h single new a b i j same = ⊎_elim
    (λ (e : a ≡ h). ⊎_elim
    (λ (f : b ≡ h). e ∙ sym f)
    (λ (k : Member b hs). absurd (new b k (sym same ∙ ap (λ (y : Holding). y.cell) e))) j)
    (λ (k : Member a hs). ⊎_elim
    (λ (f : b ≡ h). absurd (new a k (same ∙ ap (λ (y : Holding). y.cell) f)))
    (λ (l : Member b hs). single a b k l same) j) i

-- one in place of another of the same cell
single_put : (hs hs' : List Holding) (h x : Holding) → IsSingle hs → Member h hs → x.cell ≡ h.cell → Puts hs h x hs' → IsSingle hs'
single_put hs hs' h x single has is puts a b i j same =
    let other : (k : Holding) → k ≡ x → (l : Holding) → Member l hs → l ≢ h → k.cell ≢ l.cell = λ k e l m apart f. apart (single l h m has (sym f ∙ (ap (λ (y : Holding). y.cell) e ∙ is))) in
    ⊎_elim
    (λ (e : a ≡ x). ⊎_elim
    (λ (f : b ≡ x). e ∙ sym f)
    (λ (k : Member b hs × (b ≢ h)). absurd (other a e b k.0 k.1 same)) (puts.was b j))
    (λ (k : Member a hs × (a ≢ h)). ⊎_elim
    (λ (f : b ≡ x). absurd (other b f a k.0 k.1 (sym same)))
    (λ (l : Member b hs × (b ≢ h)). single a b k.0 l.0 same) (puts.was b j))
    (puts.was a i)

single_dropped : (hs hs' : List Holding) (c : Cell) → IsSingle hs → Drops hs c hs' → IsSingle hs'
single_dropped hs hs' c single drops a b i j same = single a b (drops.was a i).0 (drops.was b j).0 same

-- ---- nothing is held

-- all targets are released, and no node is held
pub none_held : (u : View) (c : Change) (to : ℕ) (ps : List Put) (filled : Bool → ℕ) (hs : List Holding) → ((b : Bool) → filled b ≡ 0) → HoldsWhole u c to to ps filled hs → hs ≡ []
none_held u c to ps filled hs none holds = no_members hs (λ h m. ⊎_elim
    (λ (t : IsTarget u c to to ps h). let a = t.above in let b = t.below in omega arith)
    (λ (o : IsNewBy u c filled h). let some = o.some in let zero_is = none o.which in omega arith)
    (holds.only h m))

-- nothing is claimed
pub none_filled : (b : Bool) → so_many 0 0 b ≡ 0
none_filled false = refl
none_filled true = refl

-- ---- two nodes

pub same_bool : (a b : Bool) → (a ≡ b) ⊎ (a ≢ b)
same_bool false false = inl refl
same_bool true true = inl refl
same_bool false true = inr (λ e. let no : false ≡ true = e in cc)
same_bool true false = inr (λ e. let no : true ≡ false = e in cc)

-- one of the two numbers changes
pub record Fills (filled : Bool → ℕ) (b : Bool) (n : ℕ) (filled' : Bool → ℕ) : Type 0 where
  pub here : filled' b ≡ n
  pub there : (d : Bool) → d ≢ b → filled' d ≡ filled d

-- ---- the cells of a plan

module _ (z : Sizes) (u : View) (c : Change) (planned : IsWhole z u c) where
  -- the two new nodes are two
  made_apart : (b d : Bool) (x y : Node) → made_at b c ≡ Some x → made_at d c ≡ Some y → b ≢ d → x ≢ y
  made_apart false false x y e f other same = other refl
  made_apart true true x y e f other same = other refl
  made_apart false true x y e f other same = planned.two x e (f ∙ ap Some (sym same))
  made_apart true false x y e f other same = planned.two y f (e ∙ ap Some same)

  -- the cell of a target is not that of a new node, whose number is in hand
  pub target_not_new : (i : ℕ) (x : Target) (ps : List Put) (h : Holding) (b : Bool) (n : Node) → IsLocked u i x ps h → made_at b c ≡ Some n → x.stamp.cell ≢ cell.Node n
  target_not_new i x ps h b n locked made is =
      let hand = (planned.new b n made).hand in
      (locked.apart (node n) (sym is)).0 hand.0 hand.1 hand.2

  -- what is held of a target's cell is the target
  pub target_held : (from to : ℕ) (ps : List Put) (filled : Bool → ℕ) (hs : List Holding) (h : Holding) (i : ℕ) (x : Target) → HoldsWhole u c from to ps filled hs → Member h hs → target_at c i ≡ Some x → from ≤ i → i < to → h.cell ≡ x.stamp.cell → IsLocked u i x ps h
  target_held from to ps filled hs h i x holds member at above below is =
      let k = holds.each i x above below at in
      subst (IsLocked u i x ps) (holds.single k.0 h k.1 member (k.2.cell ∙ sym is)) k.2

  -- ---- one more is locked

  module _ (i : ℕ) (hs : List Holding) (holds : HoldsWhole u c 0 i [] (so_many 0 0) hs) (x : Target) (at : target_at c i ≡ Some x) (h : Holding) (locked : IsLocked u i x [] h) where
    below_now : (k : Holding) → IsTarget u c 0 i [] k → IsTarget u c 0 (i + 1) [] k
    below_now k t = record { index = t.index; target = t.target; is = t.is; above = t.above; below = let a = t.below in omega arith; locked = t.locked }

    new_cell : (k : Holding) → Member k hs → k.cell ≢ h.cell
    new_cell k m e = ⊎_elim
        (λ (t : IsTarget u c 0 i [] k).
        let same : t.index ≡ i = planned.apart t.index i t.target x t.is at (sym t.locked.cell ∙ (e ∙ locked.cell)) in
        let low = t.below in absurd (omega arith))
        (λ (n : IsNewBy u c (so_many 0 0) k). let some = n.some in let none = none_filled n.which in absurd (omega arith))
        (holds.only k m)

    pub lock_holds : HoldsWhole u c 0 (i + 1) [] (so_many 0 0) (h ∷ hs)
    lock_holds = record {
      each = λ j y above below here. ⊎_elim
          (λ (is : j ≡ i).
          let same : y ≡ x = same_Some y x (sym here ∙ (ap (target_at c) is ∙ at)) in
          (h, inl refl, subst (λ (a : ℕ × Target). IsLocked u a.0 a.1 [] h) (λ t. (sym is t, sym same t)) locked))
          (λ (other : j ≢ i). let k = holds.each j y above (omega arith) here in (k.0, inr k.1, k.2))
          (cases_eq j i);
      new = λ b n made some. let none = none_filled b in absurd (omega arith);
      only = λ k m. ⊎_elim
          (λ (e : k ≡ h). inl (record { index = i; target = x; is = at; above = omega arith; below = omega arith; locked = subst (IsLocked u i x []) (sym e) locked }))
          (λ (j : Member k hs). ⊎_elim (λ (t : IsTarget u c 0 i [] k). inl (below_now k t)) (λ (n : IsNewBy u c (so_many 0 0) k). inr n) (holds.only k j)) m;
      single = single_more hs h holds.single new_cell;
    }

  -- ---- a new node is claimed

  -- what is held of another new node is of another cell
  pub new_apart : (b : Bool) (filled : Bool → ℕ) → filled b ≡ 0 → (n : Node) → made_at b c ≡ Some n → (k : Holding) (o : IsNewBy u c filled k) → (o.which ≢ b) × (k.cell ≢ cell.Node n)
  new_apart b filled none n made k o =
      let other : o.which ≢ b = λ e. (let some = o.some in let zero_is = ap filled e ∙ none in omega arith) in
      (other, λ e. let same : o.made ≡ n = (let a : cell.Node o.made ≡ cell.Node n = sym o.filled_up.cell ∙ e in cc) in made_apart o.which b o.made n o.is made other same)

  module _ (b : Bool) (filled filled' : Bool → ℕ) (fills : Fills filled b 1 filled') (none : filled b ≡ 0) (hs : List Holding) (holds : HoldsWhole u c 0 (targets c) [] filled hs) (n : Node) (made : made_at b c ≡ Some n)
      (h : Holding) (is : IsFilledBy u (made_word b c) n 1 h) where
    pub claim_free : (k : Holding) → Member k hs → k.cell ≢ cell.Node n
    claim_free k m e = ⊎_elim
        (λ (t : IsTarget u c 0 (targets c) [] k). target_not_new t.index t.target [] k b n t.locked made (sym t.locked.cell ∙ e))
        (λ (o : IsNewBy u c filled k). (new_apart b filled none n made k o).1 e)
        (holds.only k m)

    filled_one : IsFilledBy u (made_word b c) n (filled' b) h
    filled_one = subst (λ (p : ℕ). IsFilledBy u (made_word b c) n p h) (sym fills.here) is

    new_on : (d : Bool) (m : Node) → made_at d c ≡ Some m → 0 < filled' d → (k : Holding) × Member k (h ∷ hs) × IsFilledBy u (made_word d c) m (filled' d) k
    new_on d m here some = ⊎_elim
        (λ (e : d ≡ b).
        let same : n ≡ m = same_Some n m (sym made ∙ (ap (λ (a : Bool). made_at a c) (sym e) ∙ here)) in
        (h, inl refl, subst (λ (a : Bool × Node). IsFilledBy u (made_word a.0 c) a.1 (filled' a.0) h) (λ t. (sym e t, same t)) filled_one))
        (λ (other : d ≢ b).
        let was = fills.there d other in
        let k = holds.new d m here (omega arith) in
        (k.0, inr k.1, subst (λ (p : ℕ). IsFilledBy u (made_word d c) m p k.0) (sym was) k.2))
        (same_bool d b)

    pub claim_holds : HoldsWhole u c 0 (targets c) [] filled' (h ∷ hs)
    claim_holds = record {
      each = λ j y above below here. let k = holds.each j y above below here in (k.0, inr k.1, k.2);
      new = new_on;
      only = λ k m. ⊎_elim
          (λ (e : k ≡ h). inr (record { which = b; made = n; is = made; some = let one = fills.here in omega arith; filled_up = subst (IsFilledBy u (made_word b c) n (filled' b)) (sym e) filled_one }))
          (λ (j : Member k hs). ⊎_elim
          (λ (t : IsTarget u c 0 (targets c) [] k). inl t)
          (λ (o : IsNewBy u c filled k).
          let was = fills.there o.which (new_apart b filled none n made k o).0 in
          let some = o.some in
          inr (record { which = o.which; made = o.made; is = o.is; some = omega arith; filled_up = subst (λ (p : ℕ). IsFilledBy u (made_word o.which c) o.made p k) (sym was) o.filled_up }))
          (holds.only k j)) m;
      single = single_more hs h holds.single (λ k m e. claim_free k m (e ∙ is.cell));
    }

  -- ---- a word of a new node is written

  module _ (b : Bool) (place : ℕ) (filled filled' : Bool → ℕ) (fills : Fills filled b (place + 1) filled') (so : filled b ≡ place) (hs hs' : List Holding) (holds : HoldsWhole u c 0 (targets c) [] filled hs) (n : Node)
      (made : made_at b c ≡ Some n) (low : place < size n.layout) (some : 0 < place)
      (h : Holding) (has : Member h hs) (is : IsFilledBy u (made_word b c) n place h) (puts : Puts hs h (with_word h place (made_word b c place)) hs') where
    abbrev written : Holding
    written = with_word h place (made_word b c place)

    one_more : IsFilledBy u (made_word b c) n (place + 1) written
    one_more = record {
      cell = is.cell;
      stamped = is.stamped;
      long = length-set h.new place (made_word b c place) ∙ is.long;
      version = get_or-set_other h.new place 0 (made_word b c place) 0 (λ e. omega arith) ∙ is.version;
      apart = is.apart;
      words = λ i above below. ⊎_elim
          (λ (e : i ≡ place). subst (λ (j : ℕ). get_or (set h.new place (made_word b c place)) j 0 ≡ made_word b c j) (sym e) (get_or-set_same h.new place (made_word b c place) 0 (let long = is.long in omega arith)))
          (λ (other : i ≢ place). get_or-set_other h.new place i (made_word b c place) 0 other ∙ is.words i above (omega arith))
          (cases_eq i place);
    }

    not_target : (k : Holding) (i : ℕ) (x : Target) → IsLocked u i x [] k → k ≢ h
    not_target k i x locked e = target_not_new i x [] k b n locked made (sym locked.cell ∙ (ap (λ (y : Holding). y.cell) e ∙ is.cell))

    more_now : IsFilledBy u (made_word b c) n (filled' b) written
    more_now = subst (λ (p : ℕ). IsFilledBy u (made_word b c) n p written) (sym fills.here) one_more

    -- what is held of the other new node is another holding
    other_new : (d : Bool) (m : Node) (k : Holding) (p : ℕ) → d ≢ b → made_at d c ≡ Some m → IsFilledBy u (made_word d c) m p k → k ≢ h
    other_new d m k p other here o e =
        let same : m ≡ n = (let a : cell.Node m ≡ cell.Node n = sym o.cell ∙ (ap (λ (y : Holding). y.cell) e ∙ is.cell) in cc) in
        made_apart d b m n here made other same

    new_more : (d : Bool) (m : Node) → made_at d c ≡ Some m → 0 < filled' d → (k : Holding) × Member k hs' × IsFilledBy u (made_word d c) m (filled' d) k
    new_more d m here more = ⊎_elim
        (λ (e : d ≡ b).
        let same : n ≡ m = same_Some n m (sym made ∙ (ap (λ (a : Bool). made_at a c) (sym e) ∙ here)) in
        (written, puts.has, subst (λ (a : Bool × Node). IsFilledBy u (made_word a.0 c) a.1 (filled' a.0) written) (λ t. (sym e t, same t)) more_now))
        (λ (other : d ≢ b).
        let was = fills.there d other in
        let k = holds.new d m here (omega arith) in
        (k.0, puts.stays k.0 k.1 (other_new d m k.0 (filled d) other here k.2), subst (λ (p : ℕ). IsFilledBy u (made_word d c) m p k.0) (sym was) k.2))
        (same_bool d b)

    pub fill_holds : HoldsWhole u c 0 (targets c) [] filled' hs'
    fill_holds = record {
      each = λ j y above below here. let k = holds.each j y above below here in (k.0, puts.stays k.0 k.1 (not_target k.0 j y k.2), k.2);
      new = new_more;
      only = λ k m. ⊎_elim
          (λ (e : k ≡ written). inr (record { which = b; made = n; is = made; some = let one = fills.here in omega arith; filled_up = subst (IsFilledBy u (made_word b c) n (filled' b)) (sym e) more_now }))
          (λ (j : Member k hs × (k ≢ h)). ⊎_elim
          (λ (t : IsTarget u c 0 (targets c) [] k). inl t)
          (λ (o : IsNewBy u c filled k).
          let other : o.which ≢ b = (λ e.
          let same : n ≡ o.made = same_Some n o.made (sym made ∙ (ap (λ (a : Bool). made_at a c) (sym e) ∙ o.is)) in
          j.1 (holds.single k h j.0 has (o.filled_up.cell ∙ (ap cell.Node (sym same) ∙ sym is.cell)))) in
          let was = fills.there o.which other in
          let some = o.some in
          inr (record { which = o.which; made = o.made; is = o.is; some = omega arith; filled_up = subst (λ (p : ℕ). IsFilledBy u (made_word o.which c) o.made p k) (sym was) o.filled_up }))
          (holds.only k j.0))
          (puts.was k m);
      single = single_put hs hs' h written holds.single has refl puts;
    }

  -- ---- a word of a target is written

  module _ (j : ℕ) (filled : Bool → ℕ) (hs hs' : List Holding) (holds : HoldsWhole u c 0 (targets c) (take j c.puts.items) filled hs) (p : Put) (at : put_at c j ≡ Some p) (x : Target) (is : target_at c p.target ≡ Some x)
      (h : Holding) (has : Member h hs) (locked : IsLocked u p.target x (take j c.puts.items) h) (puts : Puts hs h (with_word h p.place p.value) hs') where
    abbrev put : Holding
    put = with_word h p.place p.value

    put_locked : IsLocked u p.target x (take (j + 1) c.puts.items) put
    put_locked = record {
      cell = locked.cell;
      stamped = locked.stamped;
      long = locked.long;
      version = locked.version;
      agrees = locked.agrees;
      apart = locked.apart;
      new = ap (λ (ws : List ℕ). set ws p.place p.value) locked.new ∙ sym (put_here c j p h.old at);
    }

    other_locked : (i : ℕ) (y : Target) (k : Holding) → p.target ≢ i → IsLocked u i y (take j c.puts.items) k → IsLocked u i y (take (j + 1) c.puts.items) k
    other_locked i y k other l = record {
      cell = l.cell;
      stamped = l.stamped;
      long = l.long;
      version = l.version;
      agrees = l.agrees;
      apart = l.apart;
      new = l.new ∙ sym (put_there c j i p k.old at other);
    }

    -- another target is another holding
    apart_from : (k : Holding) (i : ℕ) (y : Target) → target_at c i ≡ Some y → IsLocked u i y (take j c.puts.items) k → k ≡ h → i ≡ p.target
    apart_from k i y here l e = planned.apart i p.target y x here is (sym l.cell ∙ (ap (λ (a : Holding). a.cell) e ∙ locked.cell))

    new_stays : (k : Holding) (b : Bool) (n : Node) → made_at b c ≡ Some n → IsFilledBy u (made_word b c) n (filled b) k → k ≢ h
    new_stays k b n made o e = target_not_new p.target x (take j c.puts.items) h b n locked made (sym locked.cell ∙ (sym (ap (λ (a : Holding). a.cell) e) ∙ o.cell))

    here_or_there : (i : ℕ) (y : Target) → target_at c i ≡ Some y → (k : Holding) → Member k hs → IsLocked u i y (take j c.puts.items) k → (l : Holding) × Member l hs' × IsLocked u i y (take (j + 1) c.puts.items) l
    here_or_there i y here k m l = ⊎_elim
        (λ (e : i ≡ p.target).
        let same : y ≡ x = same_Some y x (sym here ∙ (ap (target_at c) e ∙ is)) in
        (put, puts.has, subst (λ (a : ℕ × Target). IsLocked u a.0 a.1 (take (j + 1) c.puts.items) put) (λ t. (sym e t, sym same t)) put_locked))
        (λ (other : i ≢ p.target). (k, puts.stays k m (λ e. other (apart_from k i y here l e)), other_locked i y k (λ e. other (sym e)) l))
        (cases_eq i p.target)

    pub write_holds : HoldsWhole u c 0 (targets c) (take (j + 1) c.puts.items) filled hs'
    write_holds = record {
      each = λ i y above below here. let k = holds.each i y above below here in here_or_there i y here k.0 k.1 k.2;
      new = λ b n made some. let k = holds.new b n made some in (k.0, puts.stays k.0 k.1 (new_stays k.0 b n made k.2), k.2);
      only = λ k m. ⊎_elim
          (λ (e : k ≡ put). inl (record { index = p.target; target = x; is = is; above = omega arith; below = target_low c p.target x is; locked = subst (IsLocked u p.target x (take (j + 1) c.puts.items)) (sym e) put_locked }))
          (λ (l : Member k hs × (k ≢ h)). ⊎_elim
          (λ (t : IsTarget u c 0 (targets c) (take j c.puts.items) k). inl (record {
            index = t.index;
            target = t.target;
            is = t.is;
            above = t.above;
            below = t.below;
            locked = other_locked t.index t.target k
                (λ e.
                let same : x ≡ t.target = same_Some x t.target (sym is ∙ (ap (target_at c) e ∙ t.is)) in
                l.1 (holds.single k h l.0 has (t.locked.cell ∙ (ap (λ (a : Target). a.stamp.cell) (sym same) ∙ sym locked.cell))))
                t.locked;
          }))
          (λ (o : IsNewBy u c filled k). inr o)
          (holds.only k l.0))
          (puts.was k m);
      single = single_put hs hs' h put holds.single has refl puts;
    }

  -- ---- the uppermost of those that are held is released

  module _ (from to : ℕ) (ps : List Put) (filled : Bool → ℕ) (hs hs' : List Holding) (holds : HoldsWhole u c from to ps filled hs) (x : Target) (at : target_at c from ≡ Some x) (low : from < to) (drops : Drops hs x.stamp.cell hs') where
    first_locked : (h : Holding) × Member h hs × IsLocked u from x ps h
    first_locked = holds.each from x (omega arith) low at

    pub drop_holds : HoldsWhole u c (from + 1) to ps filled hs'
    drop_holds = record {
      each = λ i y above below here.
          let k = holds.each i y (omega arith) below here in
          (k.0, drops.stays k.0 k.1 (λ e. let same : i ≡ from = planned.apart i from y x here at (sym k.2.cell ∙ e) in omega arith), k.2);
      new = λ b n made some.
          let k = holds.new b n made some in
          (k.0, drops.stays k.0 k.1 (λ e. target_not_new from x ps first_locked.0 b n first_locked.2 made (sym e ∙ k.2.cell)), k.2);
      only = λ k m.
          let was = drops.was k m in ⊎_elim
          (λ (t : IsTarget u c from to ps k). inl (record {
            index = t.index;
            target = t.target;
            is = t.is;
            above = let above = t.above in ⊎_elim
                (λ (e : t.index ≡ from).
                let same : t.target ≡ x = same_Some t.target x (sym t.is ∙ (ap (target_at c) e ∙ at)) in
                absurd (was.1 (t.locked.cell ∙ ap (λ (a : Target). a.stamp.cell) same)))
                (λ (other : t.index ≢ from). omega arith)
                (cases_eq t.index from);
            below = t.below;
            locked = t.locked;
          }))
          (λ (o : IsNewBy u c filled k). inr o)
          (holds.only k was.0);
      single = single_dropped hs hs' x.stamp.cell holds.single drops;
    }

  -- ---- all are released

  -- a node that is made is released
  module _ (b : Bool) (filled filled' : Bool → ℕ) (fills : Fills filled b 0 filled') (to : ℕ) (ps : List Put) (hs hs' : List Holding) (n : Node) (holds : HoldsWhole u c to to ps filled hs) (made : made_at b c ≡ Some n)
      (drops : Drops hs (cell.Node n) hs') where
    pub node_dropped : HoldsWhole u c to to ps filled' hs'
    node_dropped = record {
      each = λ i x above below at. absurd (omega arith);
      new = λ d m here some.
          let other : d ≢ b = (λ e. (let zero_is = ap filled' e ∙ fills.here in omega arith)) in
          let was = fills.there d other in
          let k = holds.new d m here (omega arith) in
          (k.0, drops.stays k.0 k.1 (λ e. let same : m ≡ n = (let a : cell.Node m ≡ cell.Node n = sym k.2.cell ∙ e in cc) in made_apart d b m n here made other same), subst (λ (p : ℕ). IsFilledBy u (made_word d c) m p k.0) (sym was) k.2);
      only = λ h m.
          let was = drops.was h m in ⊎_elim
          (λ (t : IsTarget u c to to ps h). inl t)
          (λ (o : IsNewBy u c filled h).
          let other : o.which ≢ b = (λ e.
          let same : n ≡ o.made = same_Some n o.made (sym made ∙ (ap (λ (a : Bool). made_at a c) (sym e) ∙ o.is)) in
          was.1 (o.filled_up.cell ∙ ap cell.Node (sym same))) in
          let so = fills.there o.which other in
          let some = o.some in
          inr (record { which = o.which; made = o.made; is = o.is; some = omega arith; filled_up = subst (λ (p : ℕ). IsFilledBy u (made_word o.which c) o.made p h) (sym so) o.filled_up }))
          (holds.only h was.0);
      single = single_dropped hs hs' (cell.Node n) holds.single drops;
    }

  -- a new node is none of those that are unlinked
  pub new_stays_linked : (ps : List Put) (filled : Bool → ℕ) (hs : List Holding) (b : Bool) (n : Node) → HoldsWhole u c 0 (targets c) ps filled hs → made_at b c ≡ Some n → Member (node n) (unlinked c) → ⊥
  new_stays_linked ps filled hs b n holds made gone =
      let t = planned.gone n gone in
      let k = holds.each t.0 t.1 (omega arith) (target_low c t.0 t.1 t.2) t.2 in
      target_not_new t.0 t.1 ps k.0 b n k.2 made t.3
