use Rattle.std.proofs.Common.{◌+◌, ◌-◌, ◌≡◌, ◌≤◌, arith, drop, length, suc, sym}
use Rattle.std.proofs.Math.Seq.{split_at}
use Rattle.std.proofs.lemmas.List.{length-drop, take_all}
use Rattle.art_path.proofs.prefixes.split.Goals as goal

pub returns-clause-whole : goal.returns-clause-whole
returns-clause-whole c =
    let xs = c.args.prefix.now in
    let next = c.args.at + 1 in
    let rest = drop next xs in
    let long : length rest ≤ length xs - next = rw (length-drop next xs) (omega arith) in
    let is : suc c.args.at ≡ next = omega arith in
    rw c.text.ensures (rw c.text-2.ensures (rw (take_all (length xs - next) rest long) (rw (sym is) (sym (split_at xs c.args.at 0 c.requires.inside)))))
