-- From node to node, and one step more, which goes on or fails.
use Rattle.std.proofs.Common.{◌-◌, Bool, refl, subst, arith}
use Rattle.art_find.proofs.Descending.{on_still}
use Rattle.art_find.proofs.Passing.{came_off, came_still, came_then, found_on}
use Rattle.art_find.specs.Findings.{LookedOn}
use Rattle.art_find.specs.Nodes.{Arrives, Came, CameOff, moment}
use Rattle.art_find.proofs.findings.Finding.descend.Goals as goal

pub loop-self-init : goal.loop-self-init
loop-self-init g c =
    let z = g.S.Steps.sizes c.args.steps.now in
    record {
      only = g.met.S.Steps.only_same c.args.steps.now;
      sizes = refl;
      turn = c.requires.turn;
      less = omega arith;
      made = refl;
      on = on_still z c.args.key.now c.args.self.now c.args.read_set.now (g.S.Steps.view c.args.steps.now);
    }

pub pass_nodes-requires-clause-found : goal.pass_nodes-requires-clause-found
pass_nodes-requires-clause-found g c =
    let l = c.loop-self in
    let i = l.invariant in
    let s = c.args.steps.now in
    let k = c.args.key.now in
    let m = c.args.self.now in
    let begun = moment (g.S.Steps.sizes s) (g.S.Steps.view s) c.args.read_set.now c.args.left.now in
    let came : Came k m begun l.self (moment (g.S.Steps.sizes l.steps) (g.S.Steps.view l.steps) l.read_set l.left) = record { sizes = i.sizes; made = i.made; on = i.on } in
    found_on k m begun l.self (moment (g.S.Steps.sizes l.steps) (g.S.Steps.view l.steps) l.read_set l.left) came c.requires.fits

pub returns-then-not-pass_nodes-clause-made : goal.returns-then-not-pass_nodes-clause-made
returns-then-not-pass_nodes-clause-made g c =
    let l = c.loop-self in
    let i = l.invariant in
    let s = c.args.steps.now in
    let p = c.pass_nodes.new in
    let k = c.args.key.now in
    let m = c.args.self.now in
    let begun = moment (g.S.Steps.sizes s) (g.S.Steps.view s) c.args.read_set.now c.args.left.now in
    let came : Came k m begun l.self (moment (g.S.Steps.sizes l.steps) (g.S.Steps.view l.steps) l.read_set l.left) = record { sizes = i.sizes; made = i.made; on = i.on } in
    let here = moment (g.S.Steps.sizes p.steps) (g.S.Steps.view p.steps) p.sink p.left in
    let off : CameOff k m begun p.self here = subst (λ (b : Bool). Arrives b k m begun p.self here) c.if-not-pass_nodes.true (c.pass_nodes.ensures.goes m begun came) in
    off.made

pub returns-then-not-pass_nodes-clause-descends : goal.returns-then-not-pass_nodes-clause-descends
returns-then-not-pass_nodes-clause-descends g c =
    let l = c.loop-self in
    let i = l.invariant in
    let s = c.args.steps.now in
    let p = c.pass_nodes.new in
    let k = c.args.key.now in
    let m = c.args.self.now in
    let begun = moment (g.S.Steps.sizes s) (g.S.Steps.view s) c.args.read_set.now c.args.left.now in
    let came : Came k m begun l.self (moment (g.S.Steps.sizes l.steps) (g.S.Steps.view l.steps) l.read_set l.left) = record { sizes = i.sizes; made = i.made; on = i.on } in
    let here = moment (g.S.Steps.sizes p.steps) (g.S.Steps.view p.steps) p.sink p.left in
    let off : CameOff k m begun p.self here = subst (λ (b : Bool). Arrives b k m begun p.self here) c.if-not-pass_nodes.true (c.pass_nodes.ensures.goes m begun came) in
    off.back

pub returns-then-left-le1-clause-made : goal.returns-then-left-le1-clause-made
returns-then-left-le1-clause-made g c =
    let l = c.loop-self in
    let i = l.invariant in
    let s = c.args.steps.now in
    let p = c.pass_nodes.new in
    let k = c.args.key.now in
    let m = c.args.self.now in
    let begun = moment (g.S.Steps.sizes s) (g.S.Steps.view s) c.args.read_set.now c.args.left.now in
    let came : Came k m begun l.self (moment (g.S.Steps.sizes l.steps) (g.S.Steps.view l.steps) l.read_set l.left) = record { sizes = i.sizes; made = i.made; on = i.on } in
    let here = moment (g.S.Steps.sizes p.steps) (g.S.Steps.view p.steps) p.sink p.left in
    let passed : Came k m begun p.self here = subst (λ (b : Bool). Arrives b k m begun p.self here) c.if-not-pass_nodes.false (c.pass_nodes.ensures.goes m begun came) in
    passed.made

pub returns-then-left-le1-clause-descends : goal.returns-then-left-le1-clause-descends
returns-then-left-le1-clause-descends g c =
    let l = c.loop-self in
    let i = l.invariant in
    let s = c.args.steps.now in
    let p = c.pass_nodes.new in
    let k = c.args.key.now in
    let m = c.args.self.now in
    let begun = moment (g.S.Steps.sizes s) (g.S.Steps.view s) c.args.read_set.now c.args.left.now in
    let came : Came k m begun l.self (moment (g.S.Steps.sizes l.steps) (g.S.Steps.view l.steps) l.read_set l.left) = record { sizes = i.sizes; made = i.made; on = i.on } in
    let here = moment (g.S.Steps.sizes p.steps) (g.S.Steps.view p.steps) p.sink p.left in
    let passed : Came k m begun p.self here = subst (λ (b : Bool). Arrives b k m begun p.self here) c.if-not-pass_nodes.false (c.pass_nodes.ensures.goes m begun came) in
    passed.on

pub look_on-requires-clause-fits : goal.look_on-requires-clause-fits
look_on-requires-clause-fits g c =
    let l = c.loop-self in
    let i = l.invariant in
    let s = c.args.steps.now in
    let p = c.pass_nodes.new in
    let k = c.args.key.now in
    let m = c.args.self.now in
    let begun = moment (g.S.Steps.sizes s) (g.S.Steps.view s) c.args.read_set.now c.args.left.now in
    let came : Came k m begun l.self (moment (g.S.Steps.sizes l.steps) (g.S.Steps.view l.steps) l.read_set l.left) = record { sizes = i.sizes; made = i.made; on = i.on } in
    let here = moment (g.S.Steps.sizes p.steps) (g.S.Steps.view p.steps) p.sink p.left in
    let passed : Came k m begun p.self here = subst (λ (b : Bool). Arrives b k m begun p.self here) c.if-not-pass_nodes.false (c.pass_nodes.ensures.goes m begun came) in
    found_on k m begun p.self here passed c.requires.fits

pub returns-in_default-clause-made : goal.returns-in_default-clause-made
returns-in_default-clause-made g c =
    let l = c.loop-self in
    let i = l.invariant in
    let s = c.args.steps.now in
    let p = c.pass_nodes.new in
    let k = c.args.key.now in
    let m = c.args.self.now in
    let begun = moment (g.S.Steps.sizes s) (g.S.Steps.view s) c.args.read_set.now c.args.left.now in
    let came : Came k m begun l.self (moment (g.S.Steps.sizes l.steps) (g.S.Steps.view l.steps) l.read_set l.left) = record { sizes = i.sizes; made = i.made; on = i.on } in
    let here = moment (g.S.Steps.sizes p.steps) (g.S.Steps.view p.steps) p.sink p.left in
    let passed : Came k m begun p.self here = subst (λ (b : Bool). Arrives b k m begun p.self here) c.if-not-pass_nodes.false (c.pass_nodes.ensures.goes m begun came) in
    let n = c.look_on.new in
    let same = g.met.S.Steps.only_sizes p.steps n.steps c.look_on.ensures.only in
    let e = c.in_default.ensures in
    let still = came_still k m begun p.self n.self (g.S.Steps.sizes p.steps) (g.S.Steps.sizes n.steps) (g.S.Steps.view p.steps) (g.S.Steps.view n.steps) p.sink n.read_set p.left same e.none.3 e.none.2 e.none.1 passed in
    still.made

pub returns-in_default-clause-descends : goal.returns-in_default-clause-descends
returns-in_default-clause-descends g c =
    let l = c.loop-self in
    let i = l.invariant in
    let s = c.args.steps.now in
    let p = c.pass_nodes.new in
    let k = c.args.key.now in
    let m = c.args.self.now in
    let begun = moment (g.S.Steps.sizes s) (g.S.Steps.view s) c.args.read_set.now c.args.left.now in
    let came : Came k m begun l.self (moment (g.S.Steps.sizes l.steps) (g.S.Steps.view l.steps) l.read_set l.left) = record { sizes = i.sizes; made = i.made; on = i.on } in
    let here = moment (g.S.Steps.sizes p.steps) (g.S.Steps.view p.steps) p.sink p.left in
    let passed : Came k m begun p.self here = subst (λ (b : Bool). Arrives b k m begun p.self here) c.if-not-pass_nodes.false (c.pass_nodes.ensures.goes m begun came) in
    let n = c.look_on.new in
    let same = g.met.S.Steps.only_sizes p.steps n.steps c.look_on.ensures.only in
    let e = c.in_default.ensures in
    let still = came_still k m begun p.self n.self (g.S.Steps.sizes p.steps) (g.S.Steps.sizes n.steps) (g.S.Steps.view p.steps) (g.S.Steps.view n.steps) p.sink n.read_set p.left same e.none.3 e.none.2 e.none.1 passed in
    still.on

pub returns-then-not-on-clause-made : goal.returns-then-not-on-clause-made
returns-then-not-on-clause-made g c =
    let l = c.loop-self in
    let i = l.invariant in
    let s = c.args.steps.now in
    let p = c.pass_nodes.new in
    let k = c.args.key.now in
    let m = c.args.self.now in
    let begun = moment (g.S.Steps.sizes s) (g.S.Steps.view s) c.args.read_set.now c.args.left.now in
    let came : Came k m begun l.self (moment (g.S.Steps.sizes l.steps) (g.S.Steps.view l.steps) l.read_set l.left) = record { sizes = i.sizes; made = i.made; on = i.on } in
    let here = moment (g.S.Steps.sizes p.steps) (g.S.Steps.view p.steps) p.sink p.left in
    let passed : Came k m begun p.self here = subst (λ (b : Bool). Arrives b k m begun p.self here) c.if-not-pass_nodes.false (c.pass_nodes.ensures.goes m begun came) in
    let n = c.look_on.new in
    let later = moment (g.S.Steps.sizes n.steps) (g.S.Steps.view n.steps) n.read_set (p.left - 1) in
    let same = g.met.S.Steps.only_sizes p.steps n.steps c.look_on.ensures.only in
    let looked = subst (λ (b : Bool). LookedOn (g.S.Steps.sizes p.steps) k b p.self p.sink (g.S.Steps.view p.steps) n.self n.read_set (g.S.Steps.view n.steps)) c.if-not-on.true c.in-Some.ensures.looked in
    (came_off k p.self here n.self later same (omega (arith, c.if-left-le1.false)) looked m begun passed).made

pub returns-then-not-on-clause-descends : goal.returns-then-not-on-clause-descends
returns-then-not-on-clause-descends g c =
    let l = c.loop-self in
    let i = l.invariant in
    let s = c.args.steps.now in
    let p = c.pass_nodes.new in
    let k = c.args.key.now in
    let m = c.args.self.now in
    let begun = moment (g.S.Steps.sizes s) (g.S.Steps.view s) c.args.read_set.now c.args.left.now in
    let came : Came k m begun l.self (moment (g.S.Steps.sizes l.steps) (g.S.Steps.view l.steps) l.read_set l.left) = record { sizes = i.sizes; made = i.made; on = i.on } in
    let here = moment (g.S.Steps.sizes p.steps) (g.S.Steps.view p.steps) p.sink p.left in
    let passed : Came k m begun p.self here = subst (λ (b : Bool). Arrives b k m begun p.self here) c.if-not-pass_nodes.false (c.pass_nodes.ensures.goes m begun came) in
    let n = c.look_on.new in
    let later = moment (g.S.Steps.sizes n.steps) (g.S.Steps.view n.steps) n.read_set (p.left - 1) in
    let same = g.met.S.Steps.only_sizes p.steps n.steps c.look_on.ensures.only in
    let looked = subst (λ (b : Bool). LookedOn (g.S.Steps.sizes p.steps) k b p.self p.sink (g.S.Steps.view p.steps) n.self n.read_set (g.S.Steps.view n.steps)) c.if-not-on.true c.in-Some.ensures.looked in
    (came_off k p.self here n.self later same (omega (arith, c.if-left-le1.false)) looked m begun passed).back

pub loop-self-preserved : goal.loop-self-preserved
loop-self-preserved g c =
    let l = c.loop-self in
    let i = l.invariant in
    let s = c.args.steps.now in
    let p = c.pass_nodes.new in
    let k = c.args.key.now in
    let m = c.args.self.now in
    let begun = moment (g.S.Steps.sizes s) (g.S.Steps.view s) c.args.read_set.now c.args.left.now in
    let came : Came k m begun l.self (moment (g.S.Steps.sizes l.steps) (g.S.Steps.view l.steps) l.read_set l.left) = record { sizes = i.sizes; made = i.made; on = i.on } in
    let here = moment (g.S.Steps.sizes p.steps) (g.S.Steps.view p.steps) p.sink p.left in
    let passed : Came k m begun p.self here = subst (λ (b : Bool). Arrives b k m begun p.self here) c.if-not-pass_nodes.false (c.pass_nodes.ensures.goes m begun came) in
    let n = c.look_on.new in
    let later = moment (g.S.Steps.sizes n.steps) (g.S.Steps.view n.steps) n.read_set (p.left - 1) in
    let same = g.met.S.Steps.only_sizes p.steps n.steps c.look_on.ensures.only in
    let looked = subst (λ (b : Bool). LookedOn (g.S.Steps.sizes p.steps) k b p.self p.sink (g.S.Steps.view p.steps) n.self n.read_set (g.S.Steps.view n.steps)) c.if-not-on.false c.in-Some.ensures.looked in
    let done = came_then k p.self here n.self later same (omega (arith, c.if-left-le1.false)) looked m begun passed in
    record {
      only = g.met.S.Steps.only_then s p.steps n.steps (g.met.S.Steps.only_then s l.steps p.steps i.only c.pass_nodes.ensures.only) c.look_on.ensures.only;
      sizes = done.sizes;
      turn = omega (arith, c.if-left-le1.false);
      less = omega (arith, i.less, c.pass_nodes.ensures.less);
      made = done.made;
      on = done.on;
    }
