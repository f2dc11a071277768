-- Lists made from other lists: of what each member gives, without some members, and with one thing in the place of a member.
use Rattle.std.proofs.Common.{◌≡◌, ◌≢◌, ◌⊎◌, ◌↔◌, List, [], ◌∷◌, map, inl, inr, ⊎_elim, sym, refl, ap, ap₂, ◌∙◌, subst}
use Rattle.art_cell.specs.declared.cells.Link.{Link}
use Rattle.art_step.specs.Steps.Write.{Puts}
use Rattle.art_step.specs.Views.{IsOnce, Member}

-- ---- lists made from others

module _ {A B : Type 0} (R : A → B → Type 0) where
  -- a gives one thing
  abbrev pub GivesOne : A → Type 0
  GivesOne a = (b : B) × R a b × ((c : B) → R a c → c ≡ b)

  -- a gives nothing
  abbrev pub GivesNone : A → Type 0
  GivesNone a = (b : B) → R a b → ⊥

  -- a list has just what the members of xs give
  pub record Gathered (xs : List A) : Type 0 where
    pub list : List B
    pub from : (b : B) → Member b list → (a : A) × Member a xs × R a b
    pub each : (a : A) (b : B) → Member a xs → R a b → Member b list

  -- there is one, where it is decided what each member gives
  pub gathered : (xs : List A) → ((a : A) → Member a xs → GivesOne a ⊎ GivesNone a) → Gathered xs
  gathered [] gives = record { list = []; from = λ b i. absurd i; each = λ a b i k. absurd i }
  gathered (x ∷ xs) gives =
      let rest : Gathered xs = gathered xs (λ a i. gives a (inr i)) in
      ⊎_elim
      (λ (one : GivesOne x). record {
        list = one.0 ∷ rest.list;
        from = λ b i. ⊎_elim (λ (e : b ≡ one.0). (x, inl refl, subst (R x) (sym e) one.1)) (λ (j : Member b rest.list). let o = rest.from b j in (o.0, inr o.1, o.2)) i;
        each = λ a b i k. ⊎_elim (λ (e : a ≡ x). inl (one.2 b (subst (λ (y : A). R y b) e k))) (λ (j : Member a xs). inr (rest.each a b j k)) i;
      })
      (λ (none : GivesNone x). record {
        list = rest.list;
        from = λ b i. let o = rest.from b i in (o.0, inr o.1, o.2);
        each = λ a b i k. ⊎_elim (λ (e : a ≡ x). absurd (none b (subst (λ (y : A). R y b) e k))) (λ (j : Member a xs). rest.each a b j k) i;
      })
      (gives x (inl refl))

-- the members of which P does not hold
pub left_over : {A : Type 0} (P : A → Type 0) (xs : List A) → ((a : A) → P a ⊎ (P a → ⊥)) → (ys : List A) × ((a : A) → Member a ys ↔ (Member a xs × (P a → ⊥)))
left_over {A} P xs decide =
    let R : A → A → Type 0 = λ a b. (b ≡ a) × (P a → ⊥) in
    let k : Gathered R xs = gathered R xs (λ a i. ⊎_elim (λ (goes : P a). inr (λ b o. o.1 goes)) (λ (stays : P a → ⊥). inl (a, (refl, stays), λ b o. o.0)) (decide a)) in
    (k.list, λ a. (λ i. let o = k.from a i in subst (λ (b : A). Member b xs × (P b → ⊥)) (sym o.2.0) (o.1, o.2.1), λ i. k.each a a i.0 (refl, i.1)))

-- ---- lists of links

-- what the members of a list are keyed by
pub member_key : {A K : Type 0} (key : A → K) (xs : List A) (a : A) → Member a xs → Member (key a) (map key xs)
member_key key [] a i = absurd i
member_key key (x ∷ xs) a i = ⊎_elim (λ (e : a ≡ x). inl (ap key e)) (λ (j : Member a xs). inr (member_key key xs a j)) i

pub key_member : {A K : Type 0} (key : A → K) (xs : List A) (k : K) → Member k (map key xs) → (a : A) × Member a xs × (key a ≡ k)
key_member key [] k i = absurd i
key_member {A} key (x ∷ xs) k i = ⊎_elim (λ (e : k ≡ key x). (x, inl refl, sym e)) (λ (j : Member k (map key xs)). let o = key_member key xs k j in (o.0, inr o.1, o.2)) i

-- the members of which P does not hold, in their order: where no key stands twice, none does then
pub sifted : {A : Type 0} (key : A → Link) (P : A → Type 0) (xs : List A) → ((a : A) → P a ⊎ (P a → ⊥)) → (ys : List A) × ((a : A) → Member a ys ↔ (Member a xs × (P a → ⊥))) × (IsOnce (map key xs) → IsOnce (map key ys))
sifted key P [] decide = ([], λ a. (λ i. absurd i, λ i. absurd i.0), λ once. once)
sifted {A} key P (x ∷ xs) decide =
    let rest = sifted key P xs decide in
    ⊎_elim
    (λ (goes : P x). (
      rest.0,
      λ a. (
        λ i. let o = (rest.1 a).0 i in (inr o.0, o.1),
        λ i. ⊎_elim (λ (e : a ≡ x). absurd (i.1 (subst P (sym e) goes))) (λ (j : Member a xs). (rest.1 a).1 (j, i.1)) i.0,
      ),
      λ once. rest.2 once.1,
    ))
    (λ (stays : P x → ⊥). (
      x ∷ rest.0,
      λ a. (
        λ i. ⊎_elim (λ (e : a ≡ x). (inl e, λ goes. stays (subst P e goes))) (λ (j : Member a rest.0). let o = (rest.1 a).0 j in (inr o.0, o.1)) i,
        λ i. ⊎_elim (λ (e : a ≡ x). inl e) (λ (j : Member a xs). inr ((rest.1 a).1 (j, i.1))) i.0,
      ),
      λ once. (λ i. let o = key_member key rest.0 (key x) i in once.0 (subst (λ (d : Link). Member d (map key xs)) o.2 (member_key key xs o.0 ((rest.1 o.0).0 o.1).0)), rest.2 once.1),
    ))
    (decide x)

-- the list with x in the place of the member h, which is the only one with its key
module _ {A K : Type 0} (key : A → K) (h x : A) (decide : (a : A) → (key a ≡ key h) ⊎ (key a ≢ key h)) where
  pub swap : A → A
  swap a = ⊎_elim (λ (_ : key a ≡ key h). x) (λ (_ : key a ≢ key h). a) (decide a)

  swap_here : (a : A) → key a ≡ key h → swap a ≡ x
  unfolding swap
  swap_here a same = elim (decide a) as (λ c. ⊎_elim (λ (_ : key a ≡ key h). x) (λ (_ : key a ≢ key h). a) c ≡ x) [ inl _ ↦ refl | inr other ↦ absurd (other same) ]

  swap_there : (a : A) → key a ≢ key h → swap a ≡ a
  unfolding swap
  swap_there a other = elim (decide a) as (λ c. ⊎_elim (λ (_ : key a ≡ key h). x) (λ (_ : key a ≢ key h). a) c ≡ a) [ inl same ↦ absurd (other same) | inr _ ↦ refl ]

  swap_key : key x ≡ key h → (a : A) → key (swap a) ≡ key a
  swap_key same a = ⊎_elim (λ (e : key a ≡ key h). ap key (swap_here a e) ∙ (same ∙ sym e)) (λ (other : key a ≢ key h). ap key (swap_there a other)) (decide a)

  -- it has the same keys
  pub same_keys : key x ≡ key h → (hs : List A) → map key (map swap hs) ≡ map key hs
  same_keys same [] = refl
  same_keys same (a ∷ hs) = ap₂ (λ (k : K) (ks : List K). k ∷ ks) (swap_key same a) (same_keys same hs)

  pub put : (hs : List A) → Member h hs → ((a : A) → Member a hs → key a ≡ key h → a ≡ h) → Puts hs h x (map swap hs)
  put hs i single = record {
    has = subst (λ (a : A). Member a (map swap hs)) (swap_here h refl) (member_key swap hs h i);
    was = λ y j. let o = key_member swap hs y j in ⊎_elim
        (λ (same : key o.0 ≡ key h). inl (sym o.2 ∙ swap_here o.0 same))
        (λ (other : key o.0 ≢ key h). let e : o.0 ≡ y = sym (swap_there o.0 other) ∙ o.2 in inr (subst (λ (b : A). Member b hs) e o.1, λ is. other (ap key (e ∙ is))))
        (decide o.0);
    stays = λ y j other. ⊎_elim
        (λ (same : key y ≡ key h). absurd (other (single y j same)))
        (λ (apart : key y ≢ key h). subst (λ (a : A). Member a (map swap hs)) (swap_there y apart) (member_key swap hs y j))
        (decide y);
  }
