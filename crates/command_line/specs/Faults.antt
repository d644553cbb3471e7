-- Why a command line asks for nothing: the faults that clap finds in the words, and the program's.
use Rattle.std.specs.Prelude.{◌≡◌, ◌≢◌, ⊤, codes, string_bytes}
use Rattle.clap.specs.{Words.{IsAmong, Kinds, Text}, declared.error.kind.ErrorKind.{ErrorKind}}
use Rattle.clap.specs.declared.error.kind.ErrorKind.TheVariants as kind
use Rattle.command_line.specs.declared.words.{WordsFault.{WordsFault}, WordsFault.TheVariants.{Memory, Help, Refused}, AskFault.{AskFault}}
use Rattle.command_line.specs.declared.words.AskFault.TheVariants.{Version, Words}

-- clap finds a fault in the words that asks neither for help nor for the version
abbrev pub IsMisused : Kinds → Type 0
IsMisused faults = (other : ErrorKind) × IsAmong other faults × (other ≢ kind.DisplayHelp) × (other ≢ kind.DisplayVersion)

-- the version or help was asked for; or clap finds another fault; or an allocation failed
abbrev pub IsUnasked : Kinds → AskFault → Type 0
IsUnasked faults (Version text) = IsAmong kind.DisplayVersion faults
IsUnasked faults (Words Memory) = ⊤
IsUnasked faults (Words (Help text)) = IsAmong kind.DisplayHelp faults
IsUnasked faults (Words (Refused text)) = IsMisused faults

-- the same of a command line without `--version`
abbrev pub IsUntold : Kinds → WordsFault → Type 0
IsUntold faults Memory = ⊤
IsUntold faults (Help text) = IsAmong kind.DisplayHelp faults
IsUntold faults (Refused text) = (other : ErrorKind) × IsAmong other faults × (other ≢ kind.DisplayHelp)

-- the fault that an error of clap's becomes
abbrev pub IsFaultOf : ErrorKind → AskFault → Type 0
IsFaultOf found (Version text) = found ≡ kind.DisplayVersion
IsFaultOf found (Words Memory) = ⊤
IsFaultOf found (Words (Help text)) = found ≡ kind.DisplayHelp
IsFaultOf found (Words (Refused text)) =
    (found ≢ kind.DisplayHelp) × (found ≢ kind.DisplayVersion) × (found ≢ kind.OutOfMemory)

-- refused with this text, or an allocation failed
abbrev pub IsRefusal : Text → WordsFault → Type 0
IsRefusal why Memory = ⊤
IsRefusal why (Refused text) = string_bytes text ≡ why
IsRefusal why fault = ⊥

-- the name of a fault's variant
abbrev pub fault_name : WordsFault → Text
fault_name Memory = codes "Memory"
fault_name (Help text) = codes "Help"
fault_name (Refused text) = codes "Refused"

abbrev pub ask_fault_name : AskFault → Text
ask_fault_name (Version text) = codes "Version"
ask_fault_name (Words fault) = fault_name fault
