use Rattle.std.proofs.Common.{◌∙◌, arith, ap, subst, sym}
use Rattle.art_change.specs.ArtAttempt.declared.attempts.Room.{Room}
use Rattle.art_change.proofs.callers.Caller.begin_remove.Goals as goal
use Rattle.art_change.proofs.Ready.{ready_may}
use Rattle.art_change.specs.ArtAttempt.Trying.{IsKey}
use Rattle.art_change.specs.ArtAttempt.Attempts.{IsRoom}
use Rattle.art_change.specs.Writes.{IsReady}
use Rattle.art_epoch.specs.Limbo.{places_of}
use Rattle.art_epoch.specs.declared.stocks.Stock.{Stock}

pub returns-clause-calling : goal.returns-clause-calling
returns-clause-calling c z u may =
    let a = c.args.self.now in
    let r = c.set.new.self in
    let m = c.new-write.ensures in
    let ps = places_of a.limbo in
    let same = c.set.ensures.row in
    let room : IsRoom z r = record {
      sizes = ap (λ (r : Room). r.sizes) same ∙ may.sizes;
      key = subst (λ (s : Room). IsKey s.row.key.items) (sym same) c.set.ensures.key;
    } in
    let ready : IsReady z u a.own ps r.stock = subst (λ (s : Stock). IsReady z u a.own ps s) (sym (ap (λ (r : Room). r.stock) same)) may.ready in
    let write = ready_may z u a.own ps r ready room in
    let left = m.left z u write in
    let few = may.few in
    let places = c.room.ensures in
    record {
      goes_on = record {
        job_is = m.job;
        turns_are = m.turns.0;
        key_is = ap (λ (r : Room). r.row.key) c.set.ensures.row;
        value_is = ap (λ (r : Room). r.row.value) c.set.ensures.row;
        few = may.few;
        waited = ps;
        stock = r.stock;
        ready = ready;
        fits = m.fits z u write;
      };
      few = omega (arith, left, few, places);
      within = omega arith;
    }
