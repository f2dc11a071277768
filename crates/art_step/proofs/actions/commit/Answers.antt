-- The leaf that it links is the one that comes.
use Rattle.std.proofs.Common.{ap, sym, subst₂, ◌≡◌, ◌∙◌, Some, List, ℕ}
use Rattle.std.specs.Prelude.{Option}
use Rattle.std.specs.Option.{option_map}
use Rattle.art_cell.specs.declared.cells.Link.{Link}
use Rattle.art_cell.specs.declared.cells.Link.TheVariants.{Leaf as leaf}
use Rattle.art_step.specs.Acting.{leaf_linked}
use Rattle.art_step.proofs.AnyStep.{step_law}
use Rattle.art_step.specs.Steps.Commit as commit
use Rattle.art_step.specs.Tokens.{link_of_number, links_of}
use Rattle.art_step.proofs.actions.commit.Goals as goal
use Rattle.art_step.proofs.actions.commit.Goals.{in-Some, in-None}

pub returns-clause-row : goal.returns-clause-row
returns-clause-row g c h is =
    let same : option_map link_of_number c.match-effects.leaf ≡ leaf_linked c.args.effects.now = elim c.match-effects.branch [
      | in-Some w ↦ ap (option_map link_of_number) w.leaf-is ∙ (ap Some w.of.ensures ∙ sym (ap (option_map leaf) w.in-Some.is))
      | in-None w ↦ ap (option_map link_of_number) w.leaf-is ∙ sym (ap (option_map leaf) w.in-None.is)
    ] in
    let view = g.S.Steps.view c.args.steps.now in
    subst₂ (λ (o : Option Link) (us : List ℕ). commit.Outcome view (g.S.Steps.view c.commit.new.self) c.args.effects.now.deed (links_of us) (commit.coming view o) h) same c.as_slice-unlinked.ensures.value
    (c.commit.ensures.row h (is.0, is.1 ∙ sym c.of-2.ensures))

pub returns-clause-once : goal.returns-clause-once
returns-clause-once g c =
    let t = c.commit.ensures.at_once in
    let sound = step_law (g.S.Steps.sizes c.args.steps.now) t.pass t.words t.views t.words_after t.views_after t.step in
    (sound.numbers.accounts t.pass (g.S.Steps.view c.commit.new.self) t.after).limbo_once
