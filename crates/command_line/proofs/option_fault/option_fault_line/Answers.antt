use Rattle.std.proofs.Common.{◌≡◌, IfOk, rules, string_bytes, subst, sym}
use Rattle.command_line.specs.{OptionFault.{option_fault_text}, declared.option_fault.OptionFault.{OptionFault}}
use Rattle.command_line.specs.declared.option_fault.OptionFault.TheVariants as option_fault
use Rattle.command_line.proofs.option_fault.option_fault_line.Goals as goal

pub returns-in-NoFile : goal.returns-in-NoFile
returns-in-NoFile c =
    let is : c.args.option_fault ≡ option_fault.NoFile c.in-NoFile.name c.in-NoFile.prefix = search rules in
    subst (λ (u : OptionFault). IfOk c.invalid-in-NoFile.result (λ line. string_bytes line ≡ option_fault_text c.args.program.now u)) (sym is)
    c.invalid-in-NoFile.ensures
