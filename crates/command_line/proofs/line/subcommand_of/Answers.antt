use Rattle.std.proofs.{Common.{arith, rules, ◌∙◌, ap, ap₂, sym, take, List}, lemmas.List.{map-append, map_more, take_all}}
use Rattle.std.proofs.lemmas.Result.{IfOk-weaker}
use Rattle.clap.specs.{Simple.{new_shape}, Words.{Rule, Text, with_rule}}
use Rattle.command_line.specs.{Line.{app_of_shape, flag_rule, flags_of, rules_of}, declared.line.Flag.{Flag}, declared.line.Takes.{Takes}}
use Rattle.command_line.proofs.line.subcommand_of.Goals as goal

pub loop-flag-preserved : goal.loop-flag-preserved
loop-flag-preserved g c =
    let flags = c.args.subcommand.now.flags.now in
    let before = flags_of (take c.loop-flag.flag-index flags) in
    let more = map_more (λ (flag : Flag). (flag.name.now, flag.takes)) flags c.loop-flag.flag-index _ (search rules) in
    let rules_are = ap rules_of more ∙ map-append (λ (flag : Text × Takes). flag_rule flag.0 flag.1) before _ in
    c.in_ok-command.ensures.shape c.arg_of.ensures.local ∙ ap₂ with_rule c.loop-flag.invariant c.arg_of.ensures.rule
    ∙ ap (λ (rules : List Rule). app_of_shape (record (new_shape c.args.subcommand.now.name.now) { rules = rules })) (sym rules_are)

pub returns : goal.returns
returns g c = grind (arith, take_all, IfOk-weaker)
