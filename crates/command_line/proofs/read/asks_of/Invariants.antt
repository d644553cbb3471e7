use Rattle.std.proofs.Common.{length}
use Rattle.clap.specs.Words.{found_of, rows_of}
use Rattle.command_line.specs.Line.{AsksIn, table_of}
use Rattle.command_line.proofs.read.asks_of.Given as goal

-- the name is that of no subcommand so far
abbrev pub invariant-loop-subcommand : goal.invariant-loop-subcommand
invariant-loop-subcommand g l =
    let rows = rows_of (found_of l.given) in
    ((asked : _) → AsksIn (table_of l.rest) l.name rows asked → AsksIn (table_of l.subcommands) l.name rows asked)
    × ((asked : _) → AsksIn (table_of l.subcommands) l.name rows asked → AsksIn (table_of l.rest) l.name rows asked)

abbrev pub decreases-loop-subcommand : goal.decreases-loop-subcommand
decreases-loop-subcommand g l = length l.rest
