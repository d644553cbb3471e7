use Rattle.std.proofs.Common.{◌≡◌, take}
use Rattle.clap.specs.Words.{app_of}
use Rattle.command_line.specs.Line.{line_with, table_of}
use Rattle.command_line.proofs.line.command_of.Given as goal

-- the subcommands so far
abbrev pub invariant-loop-subcommand : goal.invariant-loop-subcommand
invariant-loop-subcommand g l = app_of l.command
    ≡ line_with l.line.name.now l.line.has_version (table_of (take l.subcommand-index l.line.subcommands.now))
