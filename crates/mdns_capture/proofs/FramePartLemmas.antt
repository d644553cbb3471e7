-- Numbers and bytes of lists that are joined end to end.
use Rattle.std.proofs.Common.{◌≡◌, ◌≤◌, ◌<◌, ℕ, ◌+◌, List, ◌++◌, length, drop, slice_index, ap, arith}
use Rattle.std.proofs.{Math.Seq.{drop-append-add}, lemmas.List.{drop-append-le, get_or-append-add, get_or_append_left, length-drop}}
use Rattle.byteorder.specs.{Endian.{big_number}, Numbers.{big_from-append, little_from-append}}
use Rattle.mdns_capture.specs.{declared.savefile.Endianness.{Endianness}, declared.savefile.Endianness.TheVariants.{Little, Big}}
use Rattle.mdns_capture.specs.Savefile.{number_at}

pub drop_past : (front rest : List ℕ) (p q : ℕ) → q ≡ length front + p → drop q (front ++ rest) ≡ drop p rest
drop_past front rest p q e = rw e (drop-append-add front rest p)

-- a number after the prefix, and in it
pub number-past : (size : ℕ) (front rest : List ℕ) (p q : ℕ) → q ≡ length front + p
    → number_at Big size q (front ++ rest) ≡ number_at Big size p rest
unfolding number_at
number-past size front rest p q e = ap (λ bytes. big_number size bytes) (drop_past front rest p q e)

pub number-within : (order : Endianness) (size offset : ℕ) (front rest : List ℕ) → offset + size ≤ length front
    → number_at order size offset (front ++ rest) ≡ number_at order size offset front
unfolding number_at
number-within Little size offset front rest fits =
    rw (drop-append-le offset front rest (omega arith))
    (little_from-append size (drop offset front) rest (omega (arith, length-drop offset front)))
number-within Big size offset front rest fits =
    rw (drop-append-le offset front rest (omega arith))
    (big_from-append size (drop offset front) rest (omega (arith, length-drop offset front)))

-- a byte likewise
pub byte-past : (front rest : List ℕ) (p q : ℕ) → q ≡ length front + p → slice_index (front ++ rest) q ≡ slice_index rest p
byte-past front rest p q e = rw e (get_or-append-add front rest p 0)

pub byte-within : (front rest : List ℕ) (p : ℕ) → p < length front → slice_index (front ++ rest) p ≡ slice_index front p
byte-within front rest p h = get_or_append_left front rest 0 p h
