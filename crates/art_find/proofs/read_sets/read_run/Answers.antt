use Rattle.std.proofs.Common.{◌+◌, ◌∙◌, ℕ, get_or, inl, inr, set, sym, subst, arith, get_or-set_other, get_or-set_same}
use Rattle.std.proofs.lemmas.Bool.{cases_eq}
use Rattle.std.proofs.lemmas.List.{length-set}
use Rattle.art_find.proofs.Keeping.{path_grows}
use Rattle.art_find.proofs.Runs.{one_read, read_stays, reads_then, still_free, was_read}
use Rattle.art_find.specs.Kept.{WasReadAt}
use Rattle.art_step.proofs.WordRows.{inside_of}
use Rattle.art_step.specs.Steps.Read as read
use Rattle.art_step.specs.WordPlaces.{IsInside}
use Rattle.art_step.specs.declared.views.Sizes.{Sizes}
use Rattle.art_find.proofs.read_sets.read_run.Goals as goal

pub read_word-requires : goal.read_word-requires
read_word-requires g c =
    let i = c.loop-index.invariant in
    let q = c.requires in
    let v = g.S.Steps.view c.args.steps.now in
    let w = g.S.Steps.view c.loop-index.steps in
    let x = c.args.stamp in
    let some = q.after in
    let inside = q.inside in
    let long = i.long in
    let more = c.loop-index-test.true in
    record {
      allowed = (
        subst (λ (y : Sizes). IsInside y x.cell) (sym i.sizes) (inside_of (g.S.Steps.sizes c.args.steps.now) x.cell q.stamp.inside),
        record {
          stamp = i.after.grows.stamps x q.stamp.stamp;
          free = still_free v w x i.after.rest q.free;
          place = (omega (arith, some), omega (arith, inside, more, long));
        },
        path_grows v w x i.after.grows q.path,
      );
    }

pub loop-index-preserved : goal.loop-index-preserved
loop-index-preserved g c =
    let i = c.loop-index.invariant in
    let z = g.S.Steps.sizes c.args.steps.now in
    let u = g.S.Steps.view c.args.steps.now in
    let v = g.S.Steps.view c.loop-index.steps in
    let w = g.S.Steps.view c.read_word.new.steps in
    let x = c.args.stamp in
    let at = c.loop-index.index in
    let place = c.args.place in
    let words = c.loop-index.words in
    let word = c.read_word.result in
    let q = c.requires in
    let some = q.after in
    let inside = q.inside in
    let long = i.long in
    let more = c.loop-index-test.true in
    let row : read.Outcome z v w x (place + at) word = subst (λ (y : Sizes). read.Outcome y v w x (place + at) word) i.sizes c.read_word.ensures.row in
    let one = one_read z v w x (place + at) word row in
    record {
      only = g.met.S.Steps.only_then c.args.steps.now c.loop-index.steps c.read_word.new.steps i.only c.read_word.ensures.only;
      sizes = g.met.S.Steps.only_sizes c.loop-index.steps c.read_word.new.steps c.read_word.ensures.only ∙ i.sizes;
      long = length-set words at word ∙ i.long;
      after = reads_then u v w at 1 i.after one;
      read = λ j low. elim (cases_eq j at) [
        | inl here ↦
            subst (λ (n : ℕ). WasReadAt z w x (place + n) (get_or (set words at word) n 0)) (sym here)
            (subst (WasReadAt z w x (place + at)) (sym (get_or-set_same words at word 0 (omega (arith, more, long))))
            (was_read z v w x (place + at) word (omega (arith, some)) (omega (arith, inside, more, long)) row))
        | inr other ↦
            subst (WasReadAt z w x (place + j)) (sym (get_or-set_other words at j word 0 other))
            (read_stays z v w x (place + j) (get_or words j 0) one.grows (i.read j (omega (arith, low, other))))
      ];
    }
