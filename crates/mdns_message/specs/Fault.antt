-- Faults of names as faults of their messages.
use Rattle.std.specs.Prelude.{◌≡◌, ℕ, List}
use Rattle.dns_name.specs.{FirstFault.{NameFails}, declared.fault.NameReadFault.{NameReadFault}}
use Rattle.dns_name.specs.declared.fault.NameReadFault.TheVariants as name
use Rattle.mdns_message.specs.declared.fault.MessageFault.{MessageFault}
use Rattle.mdns_message.specs.declared.fault.MessageFault.TheVariants as message

-- a fault of a name as the fault of the message that has the name: of the same kind and at the same offset
abbrev pub fault_of_name : NameReadFault → MessageFault
fault_of_name (name.Cut at) = message.Cut at
fault_of_name (name.Label at) = message.Label at
fault_of_name (name.Pointer at) = message.Pointer at
fault_of_name (name.LongName at) = message.LongName at
fault_of_name name.Memory = message.Memory

-- reading a name at offset p of m meets a fault first, which as the fault of m is f
abbrev pub HasNameFault : List ℕ → ℕ → MessageFault → Type 0
HasNameFault m p f = (named : NameReadFault) × NameFails m p named × (f ≡ fault_of_name named)
