-- The node is one that may be claimed.
use Rattle.std.proofs.Common.{◌∙◌, sym}
use Rattle.art_step.specs.Tokens.{link_of_number}
use Rattle.art_step.proofs.Moves.{claim_named}
use Rattle.art_shared.specs.Stepper.{basis_of, known_by, sizes_of, view_of}
use Rattle.art_shared.proofs.CellTurns.{turns_claim}
use Rattle.art_shared.proofs.steps.StepperSteps.claim.Goals as goal

pub store-requires-clause-may : goal.store-requires-clause-may
store-requires-clause-may c =
    let s = c.args.self.now in
    let may = claim_named (sizes_of s) (view_of s) (link_of_number c.args.number) c.in-Node.node c.requires.inside (sym c.spend.ensures ∙ c.in-Node.is) in
    rw c.claimed.ensures (turns_claim (basis_of s) (known_by s) c.in-Node.node _ c.place_of-place.ensures may.0 may.1)
