-- One word more is kept, or not.
use Rattle.std.proofs.Common.{◌≡◌, ◌+◌, Bool, List, [], ◌∷◌, ◌++◌, length, take, get_or, filter_map, cond, Some, None, sym, ap, ◌∙◌, arith, append-nil, eq-eqb, ne_eqb}
use Rattle.std.specs.List.{cons_option}
use Rattle.std.proofs.lemmas.List.Elements.{filter_map-append}
use Rattle.art_plan.specs.Renewing.{kept_put}
use Rattle.art_plan.specs.declared.changes.Put.{Put}
use Rattle.art_plan.proofs.MovedPuts.{take_more}
use Rattle.art_plan.proofs.renewals.kept_puts.Goals as goal
use Rattle.art_plan.proofs.renewals.kept_puts.Goals.{then-put-ne1, else-put-ne1}

abbrev no_put : Put
no_put = record { target = 0; place = 0; value = 0 }

pub loop-put-preserved : goal.loop-put-preserved
loop-put-preserved c =
    let ps = c.args.puts.now in
    let i = c.loop-put.put-index in
    let p = get_or ps i no_put in
    let so = filter_map kept_put (take i ps) in
    let more : filter_map kept_put (take (i + 1) ps) ≡ so ++ cons_option (kept_put p) [] =
    ap (filter_map kept_put) (take_more ps i no_put c.loop-put-test.true) ∙ filter_map-append kept_put (take i ps) (p ∷ []) in
    let few = c.loop-put.invariant.few in
    elim c.if-put-ne1.branch [
      | then-put-ne1 w ↦
          let len = w.push.ensures.len in
          record {
            items = ap (λ m. m.items) w.kept-is ∙ (w.push.ensures.items ∙ (ap (λ (qs : List Put). qs ++ p ∷ []) c.loop-put.invariant.items
                ∙ sym (more ∙ ap (λ (b : Bool). so ++ cons_option (cond b None (Some p)) []) (ne_eqb p.target 1 w.if-put-ne1.true))));
            few = let same : length c.if-put-ne1.kept.items ≡ length w.push.new.self.items = ap (λ m. length m.items) w.kept-is in omega arith;
          }
      | else-put-ne1 w ↦ record {
        items = ap (λ m. m.items) w.kept-is ∙ (c.loop-put.invariant.items
            ∙ sym (more ∙ (ap (λ (b : Bool). so ++ cons_option (cond b None (Some p)) []) (eq-eqb p.target 1 w.if-put-ne1.false) ∙ append-nil so)));
        few = let same : length c.if-put-ne1.kept.items ≡ length c.loop-put.kept.items = ap (λ m. length m.items) w.kept-is in omega arith;
      }
    ]
