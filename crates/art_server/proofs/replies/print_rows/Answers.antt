use Rattle.std.proofs.Common.{Ok}
use Rattle.art_model.specs.declared.commands.Reply.TheVariants.{Rows}
use Rattle.art_server.proofs.ReplyLaws.{has_float-reply_data}
use Rattle.art_server.proofs.replies.print_rows.Goals as goal

pub print_line-requires : goal.print_line-requires
print_line-requires c =
    rw c.in_ok-rows_json.ensures (has_float-reply_data (Ok (Rows (record { items = c.args.rows.now }) c.args.more)))
