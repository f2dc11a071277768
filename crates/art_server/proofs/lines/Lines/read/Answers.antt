use Rattle.std.proofs.Common.{◌∙◌, ap, sym, take, arith}
use Rattle.art_server.specs.HeldLines.{ahead}
use Rattle.art_server.proofs.HeldLines.{moved_line, unfed, unfed_part}
use Rattle.art_server.proofs.lines.Lines.read.Goals as goal

pub invariant_of-self : goal.invariant_of-self
invariant_of-self g c =
    let l = c.self.inside in
    let n = c.min-kept.result in
    let held = c.self.invariant in
    let within = held.within in
    let all = rw (← c.self.view_is) at c.requires in
    let least = c.min-kept.ensures in
    let line = unfed_part l.before.value (ahead l) (unfed l.before.value (ahead l) (omega arith)) in
    record {
      line = omega arith;
      line_within = omega arith;
      begun = omega arith;
      ordered = omega arith;
      within = omega arith;
      kept =
          moved_line l.bytes c.to_front.new.bytes _ l.start l.seen l.end n _ held.begun held.ordered (omega arith) held.kept least
          c.to_front.ensures
          ∙ ap (take 4097) (sym (rw c.changed.ensures line));
    }

pub invariant_of-self-2 : goal.invariant_of-self-2
invariant_of-self-2 g c =
    let l = c.self.inside in
    let n = c.min-kept.result in
    let held = c.self.invariant in
    let within = held.within in
    let all = rw (← c.self.view_is) at c.requires in
    let least = c.min-kept.ensures in
    let bound = c.in_ok-count.ensures.bound in
    let line = unfed_part l.before.value (ahead l) (unfed l.before.value (ahead l) (omega arith)) in
    record {
      line = omega arith;
      line_within = omega arith;
      begun = omega arith;
      ordered = omega arith;
      within = omega arith;
      kept =
          moved_line l.bytes c.to_front.new.bytes _ l.start l.seen l.end n _ held.begun held.ordered (omega arith) held.kept least
          c.to_front.ensures
          ∙ ap (take 4097) (sym (rw c.changed.ensures line));
    }
