use Rattle.std.proofs.Common.{◌≡◌, ◌∙◌, ◌+◌, ◌<◌, ◌^◌, List, ap, sym, subst, arith, rules}
use Rattle.art_model.specs.declared.commands.Command.{Command}
use Rattle.art_load.proofs.Counted.{loads_more}
use Rattle.art_load.proofs.Totals.{as_many, commands_more}
use Rattle.art_load.proofs.loads.load_by.Goals as goal
use Rattle.art_load.specs.Commands.{load_command, load_commands}
use Rattle.art_load.specs.Counts.{added, one_of}
use Rattle.art_load.specs.Loads.{AnswersAs, Loads}
use Rattle.art_load.specs.declared.counts.Counts.{Counts}

pub count-requires : goal.count-requires
count-requires c =
    let many = as_many c.args.plan.seed c.args.plan.keys c.args.thread c.loop-step.step in
    let all = c.loop-step.invariant.total in
    let end = c.loop-step.auto.step-end in
    let fits : c.args.plan.ops < 2 ^ 32 = search rules in
    omega (arith, many, all, end, fits)

pub loop-step-preserved : goal.loop-step-preserved
loop-step-preserved c =
    let t = c.args.table.now in
    let p = c.args.pass in
    let q = c.make-kind.new.pass in
    let n = c.loop-step.step in
    let counts = c.loop-step.counts in
    let plan = c.args.plan in
    let thread = c.args.thread in
    let commands = load_commands plan.seed plan.keys thread n in
    let command = load_command plan.seed plan.keys thread n in
    let command_is : c.load_command-command.result ≡ command =
    c.load_command-command.ensures ∙ ap (load_command plan.seed plan.keys thread) c.from.ensures in
    let made = subst (λ (x : Command). AnswersAs t x c.loop-step.pass c.make-kind.result q) command_is c.make-kind.ensures.answers in
    let kind = c.make-kind.result in
    let more = loads_more t commands command p c.loop-step.pass q counts kind c.make-kind.ensures.pass c.loop-step.invariant made in
    let whole : Loads t (load_commands plan.seed plan.keys thread (n + 1)) p (added counts (one_of kind)) q =
    subst (λ (l : List Command). Loads t l p (added counts (one_of kind)) q) (sym (commands_more plan.seed plan.keys thread n)) more in
    subst (λ (x : Counts). Loads t (load_commands plan.seed plan.keys thread (n + 1)) p x q) (sym c.count.ensures) whole
