use Rattle.std.proofs.Common.{◌∙◌, ap, sym, take, arith}
use Rattle.art_server.specs.HeldLines.{ahead}
use Rattle.art_server.proofs.HeldLines.{held_line, unfed, unfed_part}
use Rattle.art_server.proofs.lines.Lines.rest.Goals as goal

pub returns : goal.returns
returns c =
    let l = c.self.inside in
    let held = c.self.invariant in
    let all = rw (← c.self.view_is) at c.requires in
    let none = unfed l.before.value (ahead l) (omega arith) in
    rw (← c.self.view_is) (held_line l.bytes l.start l.seen l.end c.min.result _ held.begun held.ordered held.kept c.min.ensures
    ∙ ap (take 4097) (sym (unfed_part l.before.value (ahead l) none)))
