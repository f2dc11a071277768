use Rattle.std.proofs.Common.{subst}
use Rattle.art_change.proofs.CallsGivenUp.{seek_free, seek_given, write_free, write_given, write_why}
use Rattle.art_change.proofs.callers.Caller.give_up.Goals as goal
use Rattle.art_change.specs.Calls.{GoesOn}
use Rattle.art_change.specs.declared.callers.Call.{Call}

pub returns-in-Write-clause-given : goal.returns-in-Write-clause-given
returns-in-Write-clause-given c given_up z w given turns u v calling =
    let e = c.give_up.ensures in
    write_given z u c.args.self.now c.in-Write.write c.give_up.new.self v e.job (e.turns given_up) (e.left given_up) e.fits w given turns c.in-Write.is calling

pub returns-in-Write-clause-why : goal.returns-in-Write-clause-why
returns-in-Write-clause-why c kept z w given turns u v calling =
    let a = c.args.self.now in
    write_why z u a c.in-Write.write v (c.give_up.ensures.why kept) w turns (subst (λ (k : Call). GoesOn z w turns u a k v) c.in-Write.is calling.goes_on)

pub returns-in-Seek-clause-given : goal.returns-in-Seek-clause-given
returns-in-Seek-clause-given c given_up z w given turns u v calling =
    let e = c.give_up-in-Seek.ensures in
    seek_given z u c.args.self.now c.in-Seek.seek c.give_up-in-Seek.new.self v e.walk (e.turns given_up) (e.left given_up) e.fits w given turns c.in-Seek.is calling

pub returns-in-Write-clause-free : goal.returns-in-Write-clause-free
returns-in-Write-clause-free c given_up z w given turns u v calling =
    let a = c.args.self.now in
    let e = c.give_up.ensures in
    write_free z u a c.in-Write.write c.give_up.new.self v (e.refuses given_up) e.fits w turns (subst (λ (k : Call). GoesOn z w turns u a k v) c.in-Write.is calling.goes_on)

pub returns-in-Seek-clause-free : goal.returns-in-Seek-clause-free
returns-in-Seek-clause-free c given_up z w given turns u v calling =
    let a = c.args.self.now in
    let e = c.give_up-in-Seek.ensures in
    seek_free z u a c.in-Seek.seek c.give_up-in-Seek.new.self v (e.refuses given_up) e.fits w turns (subst (λ (k : Call). GoesOn z w turns u a k v) c.in-Seek.is calling.goes_on)
