use Rattle.std.proofs.Common.{◌<◌, sym, subst}
use Rattle.art_find.specs.Rereadings.{RereadingFits}
use Rattle.art_attempt.specs.Validate.{reads_of}
use Rattle.art_attempt.specs.declared.validate.Role.{Role}
use Rattle.art_step.specs.Steps.Read.{Outcome as ReadOutcome}
use Rattle.art_step.specs.Views.{size_of}
use Rattle.art_attempt.proofs.validate.note.Goals as goal

pub returns-in-Above-clause-fits : goal.returns-in-Above-clause-fits
returns-in-Above-clause-fits c z v w x =
    let i = c.args.rereading.now.place in
    subst (λ (q : Role). RereadingFits z v x c.args.rereading.now (reads_of c.args.read_set.now c.args.lower.now q) → i < size_of x.cell → ReadOutcome z v w x i c.args.word
    → RereadingFits z w x c.reread_above.new.rereading (reads_of c.reread_above.new.self c.args.lower.now q)) (sym c.in-Above.is) (λ fits more row. c.reread_above.ensures.fits z v w x fits more row)

pub returns-in-Here-clause-fits : goal.returns-in-Here-clause-fits
returns-in-Here-clause-fits c z v w x =
    let i = c.args.rereading.now.place in
    subst (λ (q : Role). RereadingFits z v x c.args.rereading.now (reads_of c.args.read_set.now c.args.lower.now q) → i < size_of x.cell → ReadOutcome z v w x i c.args.word
    → RereadingFits z w x c.reread_node.new.rereading (reads_of c.reread_node.new.self c.args.lower.now q)) (sym c.in-Here.is) (λ fits more row. c.reread_node.ensures.fits z v w x fits more row)

pub returns-in-Lower-clause-fits : goal.returns-in-Lower-clause-fits
returns-in-Lower-clause-fits c z v w x =
    let i = c.args.rereading.now.place in
    subst (λ (q : Role). RereadingFits z v x c.args.rereading.now (reads_of c.args.read_set.now c.args.lower.now q) → i < size_of x.cell → ReadOutcome z v w x i c.args.word
    → RereadingFits z w x c.told.new.self (reads_of c.args.read_set.now c.told.new.reads q)) (sym c.in-Lower.is) (λ fits more row. c.told.ensures.fits z v w x fits more row)
