use Rattle.std.proofs.Common.{◌≡◌, take}
use Rattle.clap.specs.{Simple.{new_shape}, Words.{app_of}}
use Rattle.command_line.specs.Line.{app_of_shape, flags_of, rules_of}
use Rattle.command_line.proofs.line.subcommand_of.Given as goal

-- the flags so far
abbrev pub invariant-loop-flag : goal.invariant-loop-flag
invariant-loop-flag g l = app_of l.command ≡ app_of_shape (record (new_shape l.subcommand.name.now) {
  rules = rules_of (flags_of (take l.flag-index l.subcommand.flags.now));
})
