-- One word more is moved, or goes.
use Rattle.std.proofs.Common.{◌≡◌, ◌+◌, List, [], ◌∷◌, ◌++◌, length, take, get_or, filter_map, Option, Some, None, sym, ap, ◌∙◌, arith, append-nil}
use Rattle.std.specs.List.{cons_option}
use Rattle.std.proofs.lemmas.List.Elements.{filter_map-append}
use Rattle.std.proofs.lemmas.List.{append_assoc}
use Rattle.art_plan.specs.Puts.{puts_of}
use Rattle.art_plan.specs.Renewing.{moved_put}
use Rattle.art_plan.specs.declared.changes.Put.{Put}
use Rattle.art_plan.proofs.MovedPuts.{element, take_more}
use Rattle.art_plan.proofs.renewals.moved_puts.Goals as goal
use Rattle.art_plan.proofs.renewals.moved_puts.Goals.{in-Some, in-None}

abbrev no_put : Put
no_put = record { target = 0; place = 0; value = 0 }

pub moved_to-requires : goal.moved_to-requires
moved_to-requires c = c.requires.small (get_or c.args.puts.now c.loop-put.put-index no_put) (element c.args.puts.now c.loop-put.put-index no_put c.loop-put-test.true)

pub loop-put-preserved : goal.loop-put-preserved
loop-put-preserved c =
    let ps = c.args.puts.now in
    let i = c.loop-put.put-index in
    let h = moved_put c.args.first in
    let p = get_or ps i no_put in
    let front = puts_of 0 c.args.writes.now in
    let so = front ++ filter_map h (take i ps) in
    let more : front ++ filter_map h (take (i + 1) ps) ≡ so ++ cons_option (h p) [] =
    ap (λ (qs : List Put). front ++ filter_map h qs) (take_more ps i no_put c.loop-put-test.true)
    ∙ (ap (λ (qs : List Put). front ++ qs) (filter_map-append h (take i ps) (p ∷ [])) ∙ sym (append_assoc front (filter_map h (take i ps)) (cons_option (h p) []))) in
    let few = c.loop-put.invariant.few in
    elim c.match-moved_to.branch [
      | in-Some w ↦
          let is : h p ≡ Some w.in-Some.put = sym c.moved_to.ensures ∙ w.in-Some.is in
          let len = w.push-in-Some.ensures.len in
          record {
            items = ap (λ m. m.items) w.moved-is ∙ (w.push-in-Some.ensures.items ∙ (ap (λ (qs : List Put). qs ++ w.in-Some.put ∷ []) c.loop-put.invariant.items ∙ sym (more ∙ ap (λ (o : Option Put). so ++ cons_option o []) is)));
            few = let same : length c.match-moved_to.moved.items ≡ length w.push-in-Some.new.self.items = ap (λ m. length m.items) w.moved-is in omega arith;
          }
      | in-None w ↦
          let is : h p ≡ None = sym c.moved_to.ensures ∙ w.in-None.is in
          record {
            items = ap (λ m. m.items) w.moved-is ∙ (c.loop-put.invariant.items ∙ sym (more ∙ (ap (λ (o : Option Put). so ++ cons_option o []) is ∙ append-nil so)));
            few = let same : length c.match-moved_to.moved.items ≡ length c.loop-put.moved.items = ap (λ m. length m.items) w.moved-is in omega arith;
          }
    ]
