use Rattle.std.proofs.Common.{◌∙◌, arith}
use Rattle.art_change.proofs.AtOnce.{made_at_once, says_so}
use Rattle.art_change.proofs.callers.Caller.make_write.Goals as goal
use Rattle.art_change.specs.declared.callers.Caller.{Caller}
use Rattle.art_change.proofs.Ready.{ready_may}
use Rattle.art_epoch.specs.Limbo.{places_of}

pub finish-requires-clause-fits : goal.finish-requires-clause-fits
finish-requires-clause-fits g c =
    let z = g.S.Steps.sizes c.args.steps.now in
    let u = g.S.Steps.view c.args.steps.now in
    let a = c.args.self.now in
    let ps = places_of a.limbo in
    (u, ps, c.new-write.ensures.fits z u (ready_may z u a.own ps a.room c.requires.caller.ready c.requires.room))

pub returns-clause-called : goal.returns-clause-called
returns-clause-called g c =
    let z = g.S.Steps.sizes c.args.steps.now in
    let u = g.S.Steps.view c.args.steps.now in
    let v = g.S.Steps.view c.finish.new.steps in
    let a = c.args.self.now in
    let ps = places_of a.limbo in
    let may = ready_may z u a.own ps a.room c.requires.caller.ready c.requires.room in
    let m = c.finish.new.write in
    let e = c.finish.ensures in
    let n : Caller = record a { room = c.finish.new.room; limbo = c.finish.new.limbo } in
    let same = e.key in
    let says = says_so m c.ended.result c.unwrap.result c.unwrap.ensures c.ended.ensures.answered c.ended.ensures.counted c.ended.ensures.grounds c.ended.ensures.ready in
    let left = e.left in
    let most = c.new-write.ensures.left z u may in
    let few = c.requires.caller.few in
    let places = c.room.ensures in (
      m.restarts,
      made_at_once z c.args.turns u v a.room n m c.args.job c.unwrap.result c.requires.value says
          (record {
            job_is = e.job ∙ c.new-write.ensures.job;
            turns_are = e.turns ∙ c.new-write.ensures.turns.0;
            key_is = same.key;
            value_is = same.value;
            few = few;
            waited = ps;
            stock = a.room.stock;
            ready = c.requires.caller.ready;
            fits = e.fits u ps (c.new-write.ensures.fits z u may);
          })
          (omega (arith, left, most, few, places)),
    )
