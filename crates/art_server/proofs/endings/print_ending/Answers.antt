use Rattle.art_server.proofs.EndingLaws.{ends_command, reply_printable}
use Rattle.art_server.proofs.endings.print_ending.Goals as goal

pub head_of-requires : goal.head_of-requires
head_of-requires c = let (t, command, turns, p, q, ends) = c.requires in ends_command t turns p c.args.rows.now q command c.args.ending.now ends

pub print_with-requires : goal.print_with-requires
print_with-requires c =
    let (t, command, turns, p, q, ends) = c.requires in
    rw c.head_of.ensures (reply_printable t turns p c.args.rows.now q command c.args.ending.now ends)
