use Rattle.std.proofs.Common.{◌∙◌, ◌<◌, sym, subst, length}
use Rattle.std.specs.Prelude.{List}
use Rattle.art_model.specs.declared.rows.Row.{Row}
use Rattle.art_scan.proofs.LooksOn.{answered_turns, has_room}
use Rattle.art_scan.proofs.looking.Looking.step.Goals as goal
use Rattle.art_table.specs.declared.jobs.Job.TheVariants.{Look}

pub step-requires : goal.step-requires
step-requires c =
    let r = c.requires in
    let g = c.looks.self.tiling in
    let on = c.looks.invariant.1 r.0 r.1 r.2 r.3 r.4 r.5 in
    (Look g.from g.end, g.turns, on.began, on.look)

pub returns-in-Made-clause-goes_on : goal.returns-in-Made-clause-goes_on
returns-in-Made-clause-goes_on c lo hi limit turns p before =
    let g = c.looks.self.tiling in
    let on = c.looks.invariant.1 lo hi limit turns p before in
    record { began = on.began; scan = on.scan; on = on.on; look = c.step.ensures.goes_on (Look g.from g.end) g.turns on.began on.look }

pub seen-requires : goal.seen-requires
seen-requires c =
    let r = c.requires in
    let g = c.looks.self.tiling in
    let on = c.looks.invariant.1 r.0 r.1 r.2 r.3 r.4 r.5 in
    (Look g.from g.end, g.turns, on.began, c.step.ensures.goes_on (Look g.from g.end) g.turns on.began on.look)

pub returns-in_default-clause-goes_on : goal.returns-in_default-clause-goes_on
returns-in_default-clause-goes_on c lo hi limit turns p before =
    let g = c.looks.self.tiling in
    let on = c.looks.invariant.1 lo hi limit turns p before in
    record { began = on.began; scan = on.scan; on = on.on; look = c.step.ensures.goes_on (Look g.from g.end) g.turns on.began on.look }

pub goes_on_after-requires : goal.goes_on_after-requires
goes_on_after-requires c =
    let r = c.requires in
    let on = c.looks.invariant.1 r.0 r.1 r.2 r.3 r.4 r.5 in
    subst (λ (rows : List Row). length rows < 100) (sym c.as_slice.ensures.value)
    (has_room c.args.table.now r.0 r.1 r.2 r.3 r.4 c.looks.rows.items c.looks.self on)

pub returns-then-not-goes_on_after-clause-goes_on : goal.returns-then-not-goes_on_after-clause-goes_on
returns-then-not-goes_on_after-clause-goes_on c lo hi limit turns p before =
    let g = c.looks.self.tiling in
    let on = c.looks.invariant.1 lo hi limit turns p before in
    record { began = on.began; scan = on.scan; on = on.on; look = c.step.ensures.goes_on (Look g.from g.end) g.turns on.began on.look }

pub look_on-requires-clause-room : goal.look_on-requires-clause-room
look_on-requires-clause-room c =
    let r = c.requires in
    let on = c.looks.invariant.1 r.0 r.1 r.2 r.3 r.4 r.5 in
    has_room c.args.table.now r.0 r.1 r.2 r.3 r.4 c.looks.rows.items c.looks.self on

pub looks-smaller : goal.looks-smaller
looks-smaller c =
    let r = c.requires in
    let g = c.looks.self.tiling in
    let on = c.looks.invariant.1 r.0 r.1 r.2 r.3 r.4 r.5 in
    let look = c.step.ensures.goes_on (Look g.from g.end) g.turns on.began on.look in
    answered_turns c.args.table.now g.from g.end g.turns on.began c.step.new.self.pass c.in-Some.seen (c.in-Some.ensures.ends (Look g.from g.end) g.turns on.began look)
    c.look_on.new.self.tiling.turns c.look_on.ensures.turns

pub looks-preserved : goal.looks-preserved
looks-preserved c =
    let g = c.looks.self.tiling in (
      c.look_on.ensures.still ∙ (c.in-Ended.ensures.made ∙ c.looks.invariant.0),
      λ lo hi limit turns p before.
          let on = c.looks.invariant.1 lo hi limit turns p before in
          let look = c.step.ensures.goes_on (Look g.from g.end) g.turns on.began on.look in
          c.look_on.ensures.goes_on lo hi limit turns p (record { began = on.began; scan = on.scan; on = on.on; look = look })
          (c.in-Some.ensures.ends (Look g.from g.end) g.turns on.began look),
    )
