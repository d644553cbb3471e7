-- Moments and endings as text.
use Rattle.std.specs.{Prelude.{ℕ, ◌-◌, ◌/◌, ◌%◌, List, ◌∷◌, ◌++◌, length, replicate, codes}, Fmt.{decimal}}
use Rattle.mdns_capture.specs.{Limits.{second}, declared.savefile.Ending.{Ending}}
use Rattle.mdns_capture.specs.declared.savefile.Ending.TheVariants.{Going, Whole, Cut, Fraction, Long, Many, Failed}

-- a number in decimal, with zeros before it where it has fewer than nine digits
abbrev pub nine_digits : ℕ → List ℕ
nine_digits n = replicate (9 - length (decimal n)) 48 ++ decimal n

-- a moment, given in nanoseconds: whole seconds, a dot and nine digits of nanoseconds
unfoldable pub moment_text : ℕ → List ℕ
moment_text nanos = decimal (nanos / second) ++ 46 ∷ nine_digits (nanos % second)

-- how the reading of a capture ended
abbrev pub ending_text : Ending → List ℕ
ending_text Going = codes "going"
ending_text Whole = codes "whole"
ending_text (Cut at) = codes "cut at " ++ decimal at
ending_text (Fraction at) = codes "fraction out of range at " ++ decimal at
ending_text (Long at) = codes "captured length out of range at " ++ decimal at
ending_text (Many at) = codes "too many packets at " ++ decimal at
ending_text Failed = codes "failed"
