use Rattle.std.proofs.Common.{◌∙◌}
use Rattle.art_scan.proofs.LooksOn.{looks_again}
use Rattle.art_scan.proofs.looking.Looking.look_on.Goals as goal

pub returns-clause-goes_on : goal.returns-clause-goes_on
returns-clause-goes_on c lo hi limit turns p on e =
    let told = c.told.ensures in
    looks_again c.args.table.now lo hi limit turns p c.args.rows.now.items c.args.self.now on c.args.self.now.attempt.pass c.args.seen e c.told.new.self c.told.new.out.items
    told.from (told.turns ∙ c.turns_left.ensures) told.same told.rows c.requires.wanted c.look_on.new.self c.look_on.ensures.attempt c.saturating_add-self.result
