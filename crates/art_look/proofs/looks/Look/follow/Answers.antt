use Rattle.std.proofs.Common.{◌≡◌, true, false, ℕ, List, [], ◌∷◌, ◌++◌, sym, ap, ◌∙◌, subst}
use Rattle.std.specs.Prelude.{Some}
use Rattle.art_cell.specs.declared.cells.Link.{Link}
use Rattle.art_look.specs.Fronts.{is_within}
use Rattle.art_look.specs.Looks.{IsOnWay, StageFits}
use Rattle.art_look.specs.declared.looks.LookStage.TheVariants.{Child}
use Rattle.art_look.specs.declared.path_buffers.PathBuffer.{PathBuffer}
use Rattle.art_look.proofs.Ends.{within_begins}
use Rattle.art_look.proofs.Stages.{child_fits, up_to_fits}
use Rattle.art_look.proofs.looks.Look.follow.Goals as goal
use Rattle.art_look.proofs.looks.Look.follow.Goals.{in-Leaf, in-Node}

pub returns-then-goes_down-clause-fits : goal.returns-then-goes_down-clause-fits
returns-then-goes_down-clause-fits c = λ z hi u w word on shows is noted names.
    let a = c.args.sought in
    let lo = c.args.lo.now in
    let p = c.args.path_buffer.now.path.items in
    let t : PathBuffer = record { path = c.push.new.self; key = c.args.path_buffer.now.key } in
    let way : IsOnWay lo (p ++ a.byte ∷ []) c.args.link = elim c.match-link.branch [
      | in-Leaf b ↦ subst (IsOnWay lo (p ++ a.byte ∷ [])) (sym b.in-Leaf.is) tt
      | in-Node b ↦
          let within : is_within a.front lo p a.byte ≡ true = ap (λ (q : List ℕ). is_within a.front lo q a.byte) (sym b.as_slice.ensures.value) ∙ sym b.begins-goes_down.ensures ∙ sym b.goes_down-is ∙ c.if-goes_down.true in
          subst (IsOnWay lo (p ++ a.byte ∷ [])) (sym b.in-Node.is) (within_begins a.front lo p a.byte c.requires.sought.side within)
    ] in
    subst (λ (n : ℕ). StageFits z lo hi n (Child a.seen.stamp c.args.link) t u w) (sym c.len-self.ensures.value)
    (child_fits z lo hi c.args.self.now.depth c.args.path_buffer.now u w a on c.requires.sought c.requires.low c.requires.byte word shows is t c.args.link c.push.ensures.items noted names way)

pub returns-else-goes_down-clause-fits : goal.returns-else-goes_down-clause-fits
returns-else-goes_down-clause-fits c = λ z hi u w word on shows is noted names.
    let a = c.args.sought in
    let lo = c.args.lo.now in
    let p = c.args.path_buffer.now.path.items in
    let t : PathBuffer = record { path = c.push.new.self; key = c.args.path_buffer.now.key } in
    elim c.match-link.branch [
      | in-Leaf b ↦ cc (b.goes_down-is, c.if-goes_down.false)
      | in-Node b ↦
          let apart : is_within a.front lo p a.byte ≡ false = ap (λ (q : List ℕ). is_within a.front lo q a.byte) (sym b.as_slice.ensures.value) ∙ sym b.begins-goes_down.ensures ∙ sym b.goes_down-is ∙ c.if-goes_down.false in
          up_to_fits z lo hi c.args.self.now.depth c.args.path_buffer.now u w a on c.requires.sought c.requires.low c.requires.byte word shows is t _ c.push.ensures.items (names ∙ ap (λ (d : Link). Some d) b.in-Node.is) apart
    ]
