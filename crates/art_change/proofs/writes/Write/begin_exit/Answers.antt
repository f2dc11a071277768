use Rattle.std.proofs.Common.{◌≡◌, ◌≤◌, ℕ, false, List, length, sym, subst, arith}
use Rattle.art_change.proofs.Frames.{begins_few, begins_going, may_close}
use Rattle.art_change.proofs.writes.Write.begin_exit.Goals as goal
use Rattle.art_epoch.specs.Exit.{ExitFits, MayClose, is_ended, steps_left}
use Rattle.art_epoch.specs.declared.exit.Exit.{Exit}
use Rattle.art_step.specs.Tokens.{links_of}

pub returns-clause-fits : goal.returns-clause-fits
returns-clause-fits c z u opened began v ps qs room frame begun outcome counted =
    let m = c.args.self.now in
    let r = c.args.room.now in
    let may = may_close z u opened began ps qs frame.frame begun.base m.job r v c.args.outcome m.left outcome (subst (λ (words : List ℕ). length words ≤ 3) c.gone_by.ensures.words c.gone_by.ensures.few) in
    let fits = c.new-exit.ensures.fits z r.row.key.items r.row.value v qs r.stock
    (subst (λ (words : List ℕ). MayClose z r.row.key.items r.row.value v qs (links_of words) r.stock) (sym c.gone_by.ensures.words) may) in
    record {
      room = room;
      stage = (
        record {
          opened = opened;
          began = began;
          ended = v;
          stock = r.stock;
          waiting = qs;
          frame = frame;
          begun = begun;
          outcome = outcome;
          later = omega arith;
          counted = counted;
          fits = subst (λ (words : List ℕ). ExitFits z r.row.key.items r.row.value v qs (links_of words) c.new-exit.result qs r.stock v) c.gone_by.ensures.words fits;
        },
        subst (λ (q : Exit). is_ended q ≡ false) (sym c.new-exit.ensures.begins) (begins_going c.gone_by.result.now),
      );
    }

pub returns-clause-left : goal.returns-clause-left
returns-clause-left c qs =
    let s = c.args.room.now.stock in
    subst (λ (q : Exit). steps_left q s ≤ 7) (sym c.new-exit.ensures.begins) (begins_few c.gone_by.result.now s)
