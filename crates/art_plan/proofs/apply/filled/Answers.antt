-- All words of the node are written.
use Rattle.std.proofs.Common.{◌≡◌, Bool, ℕ, true, false, [], refl, sym, ap, ◌∙◌, subst, arith}
use Rattle.art_plan.specs.Apply.{IsLocking, at_fill, claims, so_many}
use Rattle.art_plan.specs.Changes.{filled_at, targets}
use Rattle.art_plan.specs.Whole.{filled_ends}
use Rattle.art_plan.proofs.Told.{two_are}
use Rattle.art_plan.proofs.apply.filled.Goals as goal

pub returns-then-copy-clause-fits : goal.returns-then-copy-clause-fits
returns-then-copy-clause-fits c u v locking =
    let ch = c.args.change.now in
    let all : filled_ends ch c.args.copy ≡ c.size.result = ap (filled_at ch) (sym c.made_at.ensures ∙ c.in-Some.is) ∙ sym c.size.ensures in
    let end : c.args.place ≡ filled_ends ch c.args.copy = (let few = c.requires.few in let past = c.if-place-size.false in omega (arith, all, few, past)) in
    let of_copy : c.args.place ≡ filled_ends ch true = end ∙ ap (filled_ends ch) c.if-copy.true in
    let same : so_many (filled_ends ch false) c.args.place ≡ filled_ends ch = two_are (so_many (filled_ends ch false) c.args.place) (filled_ends ch) refl of_copy in
    c.written.ensures.fits u v (subst (λ (f : Bool → ℕ). IsLocking u ch (targets ch) [] f v) same
    (subst (λ (b : Bool). IsLocking u ch (targets ch) [] (at_fill ch b c.args.place) v) c.if-copy.true locking))

pub returns-else-copy-clause-fits : goal.returns-else-copy-clause-fits
returns-else-copy-clause-fits c u v locking =
    let ch = c.args.change.now in
    let all : filled_ends ch c.args.copy ≡ c.size.result = ap (filled_at ch) (sym c.made_at.ensures ∙ c.in-Some.is) ∙ sym c.size.ensures in
    let end : c.args.place ≡ filled_ends ch c.args.copy = (let few = c.requires.few in let past = c.if-place-size.false in omega (arith, all, few, past)) in
    let of_first : c.args.place ≡ filled_ends ch false = end ∙ ap (filled_ends ch) c.if-copy.false in
    c.fill_copy.ensures.fits u v (subst (λ (k : ℕ). IsLocking u ch (targets ch) [] (so_many k (claims ch true)) v) of_first
    (subst (λ (b : Bool). IsLocking u ch (targets ch) [] (at_fill ch b c.args.place) v) c.if-copy.false locking))
