use Rattle.art_shared_uses.proofs.Learnt.{writes_learnt}
use Rattle.art_shared_uses.proofs.marks.learns_and_finds.Goals as goal

pub check_find-requires : goal.check_find-requires
check_find-requires g c = writes_learnt c.args.shared.now c.args.pass c.learn.new.pass c.caller_of-caller.result c.caller_of-caller.ensures c.learn.ensures.pass c.learn.ensures.row
