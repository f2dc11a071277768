use Rattle.std.proofs.Common.{◌+◌, ◌∙◌, length, ap, sym, refl, take, arith}
use Rattle.art_server.proofs.HeldLines.{fed, fed_count, fed_line, held_line, range_none, unfed_lines}
use Rattle.art_server.proofs.StreamLaws.{no_feed}
use Rattle.art_server.proofs.lines.Lines.advance.Goals as goal

pub returns-in_default : goal.returns-in_default
returns-in_default c =
    let l = c.self.inside in
    rw (← c.self.view_is) (refl, ap length (sym (unfed_lines l.before.value _ (no_feed _ c.in_default.ensures))))

pub invariant_of-self : goal.invariant_of-self
invariant_of-self c =
    let l = c.self.inside in
    let n = c.in-Some.length in
    let held = c.self.invariant in
    let (first, passes) = c.in-Some.ensures in
    let is = fed l.bytes l.seen l.end n l.before.value c.changed.result.value c.changed.ensures first passes in
    let inside = is.within in
    record {
      line = omega (arith, c.min.ensures);
      line_within = omega (arith, c.min.ensures);
      begun = omega arith;
      ordered = omega arith;
      within = held.within;
      kept = range_none l.bytes (l.seen + n + 1) ∙ ap (take 4097) (sym is.part);
    }

pub returns : goal.returns
returns c =
    let l = c.self.inside in
    let n = c.in-Some.length in
    let held = c.self.invariant in
    let (first, passes) = c.in-Some.ensures in
    let is = fed l.bytes l.seen l.end n l.before.value c.changed.result.value c.changed.ensures first passes in
    let inside = is.within in
    rw (← c.self.view_is) (
      is.whole,
      fed_count l.bytes l.seen l.end n l.before.value c.changed.result.value is,
      fed_line l.bytes l.seen l.end n l.before.value c.changed.result.value _ is
          (held_line l.bytes l.start l.seen (l.seen + n) c.min.result _ held.begun (omega arith) held.kept c.min.ensures),
    )
