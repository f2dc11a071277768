-- One word more is put, where it is the first target's.
use Rattle.std.proofs.Common.{◌≡◌, Bool, ℕ, List, [], ◌∷◌, set, get_or, take, ◌+◌, cond, eqb, sym, ap, ◌∙◌, arith, eq-eqb, ne_eqb}
use Rattle.art_plan.specs.Changes.{with_puts}
use Rattle.art_plan.specs.declared.changes.Put.{Put}
use Rattle.art_plan.proofs.MovedPuts.{element, take_more}
use Rattle.art_plan.proofs.PutWords.{with_puts-append}
use Rattle.art_plan.proofs.renewals.written_body.Goals as goal
use Rattle.art_plan.proofs.renewals.written_body.Goals.{then-put-target, else-put-target}

abbrev no_put : Put
no_put = record { target = 0; place = 0; value = 0 }

pub offset_bounds-twin-put : goal.offset_bounds-twin-put
offset_bounds-twin-put c =
    let low = c.requires.small (get_or c.args.puts.now c.loop-put.put-index no_put) (element c.args.puts.now c.loop-put.put-index no_put c.loop-put-test.true) in
    omega arith

pub bounds-twin-put : goal.bounds-twin-put
bounds-twin-put c = c.requires.small (get_or c.args.puts.now c.loop-put.put-index no_put) (element c.args.puts.now c.loop-put.put-index no_put c.loop-put-test.true)

pub loop-put-preserved : goal.loop-put-preserved
loop-put-preserved c =
    let ps = c.args.puts.now in
    let t = c.args.target in
    let i = c.loop-put.put-index in
    let p = get_or ps i no_put in
    let ws = c.args.body.now.words in
    let so = with_puts t (take i ps) ws in
    let more : with_puts t (take (i + 1) ps) ws ≡ cond (eqb p.target t) (set so p.place p.value) so = ap (λ (qs : List Put). with_puts t qs ws) (take_more ps i no_put c.loop-put-test.true) ∙ with_puts-append t (take i ps) (p ∷ []) ws in
    elim c.if-put-target.branch [
      | then-put-target w ↦ record {
        layout = ap (λ b. b.layout) w.twin-is ∙ c.loop-put.invariant.layout;
        words = ap (λ b. b.words) w.twin-is ∙ (ap (λ (xs : List ℕ). set xs p.place p.value) c.loop-put.invariant.words ∙ sym (more ∙ ap (λ (b : Bool). cond b (set so p.place p.value) so) (eq-eqb p.target t w.if-put-target.true)));
      }
      | else-put-target w ↦ record {
        layout = ap (λ b. b.layout) w.twin-is ∙ c.loop-put.invariant.layout;
        words = ap (λ b. b.words) w.twin-is ∙ (c.loop-put.invariant.words ∙ sym (more ∙ ap (λ (b : Bool). cond b (set so p.place p.value) so) (ne_eqb p.target t w.if-put-target.false)));
      }
    ]
