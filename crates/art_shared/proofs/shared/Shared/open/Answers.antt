-- The rule holds at opening, and where a pass gets a seat of its own.
use Rattle.std.proofs.Common.{rules, ◌≡◌, ◌<◌, ◌-◌, ◌+◌, ℕ, List, [], ◌∷◌, length, Some, slice_get, ⊎_elim, sym, refl, ap, ◌∙◌, subst, arith, length-append}
use Rattle.art_step.specs.declared.views.Sizes.{Sizes}
use Rattle.art_step.specs.Opening.{newcomer}
use Rattle.art_key.specs.declared.columns.Column.{Column}
use Rattle.art_shared.specs.declared.law.Basis.{Basis}
use Rattle.art_shared.specs.Passes.{all_placed, first_alone, has_numbers, view_in, without_first}
use Rattle.art_shared.proofs.Lists.{get_last}
use Rattle.art_shared.proofs.Moving.{splits}
use Rattle.art_shared.proofs.Opened.{cut_is, newcomers_more, next_alone, opened, others_left}
use Rattle.art_shared.proofs.shared.Shared.open.Goals as goal

-- what the table stands on
abbrev of : Sizes → List Column → ℕ → Basis
of z columns start = record { sizes = z; schema = columns; counter_start = start }

pub of_words-requires : goal.of_words-requires
of_words-requires c = opened (of c.args.sizes.now c.args.schema c.args.counter_start) c.as_slice.result.now c.requires (search rules)

pub split_seat-seat-requires : goal.split_seat-seat-requires
split_seat-seat-requires c =
    let i = c.loop-number.invariant in
    let me = c.loop-number.rest.me in
    let more = newcomers_more c.loop-number.number (c.args.sizes.now.passes - c.loop-number.number) (omega arith) in
    let whole = ap (λ m. m.0.views) i.me ∙ more in
    (i.table, rw c.in_ok-table.ensures.0 (let long = (opened (of c.args.sizes.now c.args.schema c.args.counter_start) c.as_slice.result.now c.requires (search rules)).long in omega (arith, long)), splits c.in_ok-table.table.shared.key c.loop-number.rest.id me.0 (without_first me.0) (first_alone me.0) (cut_is me.0.views _ _ whole) refl (λ s k at h i. absurd i))

pub invariant_of-push : goal.invariant_of-push
invariant_of-push c =
    let low = c.loop-number-test.true in
    let is = c.split_seat-seat.ensures.4 ∙ next_alone (of c.args.sizes.now c.args.schema c.args.counter_start) c.loop-number.number c.loop-number.rest.me (omega arith) c.loop-number.invariant.me in
    record {
      one = ap (λ m. length m.0.views) is;
      empty = ap (λ m. length m.1) is;
      own = sym (ap (λ m. (view_in m.0).pass) is);
      inside = subst (λ (z : Sizes). c.loop-number.number < z.passes) (sym (ap (λ m. m.0.basis.sizes) is)) (omega arith);
      placed = ap (λ m. all_placed m.0.basis.sizes (view_in m.0).stamps) is;
      numbers = ap (λ m. has_numbers m.0.basis.sizes (view_in m.0)) is;
    }

pub loop-number-preserved : goal.loop-number-preserved
loop-number-preserved c =
    let i = c.loop-number.invariant in
    let p : ℕ = c.loop-number.number in
    let b : Basis = of c.args.sizes.now c.args.schema c.args.counter_start in
    let cut = c.split_seat-seat.ensures in
    let items = c.in_ok-push.ensures.items in
    let low = c.loop-number-test.true in
    let is = cut.4 ∙ next_alone b p c.loop-number.rest.me (omega arith) i.me in
    record {
      table = cut.0 ∙ i.table;
      me = cut.2 ∙ others_left b p c.loop-number.rest.me (omega arith) i.me;
      count = ap length items ∙ (length-append c.loop-number.passes.items _ ∙ ap (λ (n : ℕ). n + 1) i.count);
      each = λ q a e. ⊎_elim
          (λ (h : slice_get c.loop-number.passes.items q ≡ Some a). i.each q a h)
          (λ h. (ap (λ b. b.seat.table_id) h.1 ∙ (cut.3 ∙ i.table), ap (λ b. b.seat.me.0) h.1 ∙ (ap (λ m. m.0) is ∙ ap (λ (k : ℕ). record { basis = b; views = newcomer k ∷ []; told = [] }) (sym (h.0 ∙ i.count)))))
          (get_last c.loop-number.passes.items _ a q (subst (λ xs. slice_get xs q ≡ Some a) items e));
    }

pub invariant_of-shared : goal.invariant_of-shared
invariant_of-shared c =
    let t = c.in_ok-table.ensures in
    record { key = t.5; wide = t.0 ∙ (opened (of c.args.sizes.now c.args.schema c.args.counter_start) c.as_slice.result.now c.requires (search rules)).long; plain = t.1; nodes = c.first_nodes.ensures; free = c.first_free_words.ensures; epoch = c.epoch_place.ensures }
