-- Child words and the links that they name.
use Rattle.std.proofs.Common.{◌≡◌, ◌≢◌, ℕ, ◌/◌, ◌%◌, ◌^◌, ◌<◌, cond, ltb, Some, None, refl, sym, ap, ap₂, ◌∙◌, ⊎_elim, ne_eqb, arith}
use Rattle.std.proofs.lemmas.Bool.{cases_lt, cases_eq, lt-ltb, le-ltb}
use Rattle.std.proofs.lemmas.Option.{same_Some}
use Rattle.art_cell.specs.declared.cells.Layout.{Layout}
use Rattle.art_cell.specs.declared.cells.Layout.TheVariants.{Node4, Node16, Node48, Node256}
use Rattle.art_cell.specs.declared.cells.Link.{Link}
use Rattle.art_cell.specs.declared.cells.Link.TheVariants.{Leaf as leaf, Node as node}
use Rattle.art_cell.specs.Children.{coded, child_word, link_of, number_of, code_of, code_of_layout}

code_below : (c : Link) → code_of c < 8
code_below (leaf l) = omega arith
code_below (node n) = layout n.layout
  where
    layout : (k : Layout) → code_of_layout k < 8
    layout Node4 = omega arith
    layout Node16 = omega arith
    layout Node48 = omega arith
    layout Node256 = omega arith

coded_as : (c : Link) → coded (code_of c) (number_of c) ≡ Some c
coded_as (leaf l) = refl
coded_as (node n) = layout n.layout n.number
  where
    layout : (k : Layout) (i : ℕ) → coded (code_of_layout k) i ≡ Some (node (record { layout = k; number = i }))
    layout Node4 i = refl
    layout Node16 i = refl
    layout Node48 i = refl
    layout Node256 i = refl

pub link_back : (c : Link) → number_of c < 2 ^ 32 → link_of (child_word c) ≡ Some c
link_back c low =
    let code = code_below c in
    let number : child_word c / 8 ≡ number_of c = omega (arith, code) in
    let rest : child_word c % 8 ≡ code_of c = omega (arith, code) in
    ap₂ (λ u v. cond (ltb v (2 ^ 32)) (coded u v) None) rest number
    ∙ (ap (λ t. cond t (coded (code_of c) (number_of c)) None) (lt-ltb (number_of c) (2 ^ 32) low) ∙ coded_as c)

abbrev IsCoded : ℕ → ℕ → Link → Type 0
IsCoded code number c = (code_of c ≡ code) × (number_of c ≡ number)

is_coded : (c d : Link) (code number k : ℕ) → code ≡ k → coded k number ≡ Some d → code_of d ≡ k → number_of d ≡ number → coded code number ≡ Some c → IsCoded code number c
is_coded c d code number k is this has n e =
    let same : c ≡ d = same_Some c d (sym e ∙ ap (λ z. coded z number) is ∙ this) in
    (ap code_of same ∙ has ∙ sym is, ap number_of same ∙ n)

coded_is : (code number : ℕ) (c : Link) → coded code number ≡ Some c → IsCoded code number c
coded_is code number c e =
    ⊎_elim (λ (is : code ≡ 1). is_coded c _ code number 1 is refl refl refl e)
    (λ (f1 : code ≢ 1). ⊎_elim (λ (is : code ≡ 2). is_coded c _ code number 2 is refl refl refl e)
    (λ (f2 : code ≢ 2). ⊎_elim (λ (is : code ≡ 3). is_coded c _ code number 3 is refl refl refl e)
    (λ (f3 : code ≢ 3). ⊎_elim (λ (is : code ≡ 4). is_coded c _ code number 4 is refl refl refl e)
    (λ (f4 : code ≢ 4). ⊎_elim (λ (is : code ≡ 5). is_coded c _ code number 5 is refl refl refl e)
    (λ (f5 : code ≢ 5).
    let none : coded code number ≡ None = simp (ne_eqb code 1 f1, ne_eqb code 2 f2, ne_eqb code 3 f3, ne_eqb code 4 f4, ne_eqb code 5 f5) in
    absurd (cc))
    (cases_eq code 5)) (cases_eq code 4)) (cases_eq code 3)) (cases_eq code 2)) (cases_eq code 1)

pub link_exact : (word : ℕ) (c : Link) → link_of word ≡ Some c → (child_word c ≡ word) × (number_of c < 2 ^ 32)
link_exact word c e = ⊎_elim
    (λ (low : word / 8 < 2 ^ 32).
    let is = coded_is (word % 8) (word / 8) c (sym (ap (λ t. cond t (coded (word % 8) (word / 8)) None) (lt-ltb (word / 8) (2 ^ 32) low)) ∙ e) in
    (omega (arith, is.0, is.1), omega (arith, low, is.1)))
    (λ high.
    let none : link_of word ≡ None = ap (λ t. cond t (coded (word % 8) (word / 8)) None) (le-ltb (word / 8) (2 ^ 32) high) in
    absurd (cc))
    (cases_lt (word / 8) (2 ^ 32))
