use Rattle.std.proofs.{Common.{rules, ◌≡◌, ◌∙◌, ap, ap₂, sym, take, ◌∷◌, ◌+◌, ◌++◌, []}, lemmas.List.{map_more}}
use Rattle.clap.specs.Words.{App, app_of, with_subcommand}
use Rattle.command_line.specs.{Line.{flags_of, line_with, shape_of, table_of}, declared.line.Subcommand.{Subcommand}}
use Rattle.command_line.proofs.LineLemmas.{line-more, plain-is-local}
use Rattle.command_line.proofs.line.command_of.Goals as goal

pub loop-subcommand-preserved : goal.loop-subcommand-preserved
loop-subcommand-preserved g c =
    let line = c.args.line.now in
    let xs = line.subcommands.now in
    let before = table_of (take c.loop-subcommand.subcommand-index xs) in
    let item = c.subcommand-item.result in
    let shape = c.in_ok-subcommand_of.ensures in
    let plain = ap (λ (a : App). a.top.is_plain) shape in
    let added : app_of c.in_ok-command.command
    ≡ with_subcommand (line_with line.name.now line.has_version before) (shape_of item.name.now (flags_of item.flags.now)) =
    c.in_ok-command.ensures.shape (plain-is-local _ _ _ _ plain)
    ∙ ap₂ (λ (a s : App). with_subcommand a s.top) c.loop-subcommand.invariant shape in
    let more : table_of (take (c.loop-subcommand.subcommand-index + 1) xs) ≡ before ++ (item.name.now, flags_of item.flags.now, item.asks) ∷ [] =
    map_more (λ (s : Subcommand _). (s.name.now, flags_of s.flags.now, s.asks)) xs c.loop-subcommand.subcommand-index item (search rules)
    ∙ ap (λ (s : Subcommand _). before ++ (s.name.now, flags_of s.flags.now, s.asks) ∷ []) (sym c.subcommand-item.is) in
    added ∙ line-more line.name.now line.has_version before (item.name.now, flags_of item.flags.now, item.asks)
    ∙ ap (line_with line.name.now line.has_version) (sym more)
