use Rattle.std.proofs.Common.{sym, subst, ◌∙◌}
use Rattle.art_key.specs.Histories.{AllStandIn}
use Rattle.art_key.proofs.Legality.{become_standing, goes_on}
use Rattle.art_key.proofs.events.legal.Goals as goal

pub loop-event-preserved : goal.loop-event-preserved
loop-event-preserved c =
    let answered = c.in_ok-is_answered.ensures.decides.0 c.if-not-branch.false in
    let after = c.in_ok-is_answered.ensures.rows c.if-not-branch.false in
    record {
      order = c.in_ok-is_answered.ensures.order ∙ c.loop-event.invariant.order;
      stand = subst (AllStandIn c.args.schema.now) (sym after) (become_standing c.args.schema.now c.loop-event.rows.rows c.event-item.result.what c.loop-event.invariant.stand answered);
      rest = goes_on c.args.schema.now c.args.events.now c.loop-event.event-index c.event-item.result c.loop-event.rows.rows c.is_answered.new.rows.rows c.loop-event-test.true c.event-item.is answered after c.loop-event.invariant.rest;
    }
