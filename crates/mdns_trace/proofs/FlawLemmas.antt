-- Which bytes are the file header of a capture.
use Rattle.std.proofs.Common.{◌≡◌, ◌∙◌, ◌⊎◌, ◌+◌, ◌-◌, ◌<◌, ◌≤◌, ℕ, true, false, min, List, [], ◌++◌}
use Rattle.std.proofs.Common.{length, take, drop, Option, Some, None, IfSome, Result, inl, inr, refl, sym, ap, arith}
use Rattle.std.proofs.Common.{append-nil, drop-drop, length-append, length-drop, length-take-le, lt-ltb, take-append-drop, take_all}
use lib.Seq.{take-append_seam}
use Rattle.std.specs.Io.KnownBytes.{Consumes, IsAtEnd, Keeps, ReadConsumes, prepend_known}
use Rattle.std.proofs.{KnownBytes.{Keeps-refl, prepend_known-nil, prepend_known-read}, lemmas.Bool.{cases_lt}, lemmas.List.{drop_all}}
use Rattle.mdns_capture.specs.declared.savefile.{BeginFault.{BeginFault}, Format.{Format}, Endianness.TheVariants.{Big}}
use Rattle.mdns_capture.specs.Savefile.{format_fault, format_of, header_fault, number_at}
use Rattle.mdns_capture.specs.declared.savefile.BeginFault.TheVariants as fault
use Rattle.mdns_capture.proofs.HeaderLemmas.{header_fault-append}
use Rattle.mdns_trace.specs.{declared.flaw.Flaw.{Flaw}, Flaw.{flaw_in, flaw_of, head_of, is_ethernet}, Verdict.{IsNoCapture}}

-- ---- a whole file header

format-sound : (head : List ℕ) (format : Option Format) → is_ethernet (flaw_in head format) ≡ true → format_fault head format ≡ None
format-sound head None is = absurd cc
format-sound head (Some format) is = grind arith

format-flawed : (head : List ℕ) (format : Option Format) → is_ethernet (flaw_in head format) ≡ false
    → (why : BeginFault) × (format_fault head format ≡ Some why)
format-flawed head None is = (fault.Magic, refl)
format-flawed head (Some format) is = grind arith

whole-header : (head : List ℕ) → length head ≡ 24 → header_fault head ≡ format_fault head (format_of (number_at Big 4 0 head))
whole-header head size = ap header_fault (sym (append-nil head)) ∙ header_fault-append head [] size

pub is_header : (head : List ℕ) → length head ≡ 24 → is_ethernet (flaw_in head (format_of (number_at Big 4 0 head))) ≡ true
    → header_fault head ≡ None
is_header head size is = whole-header head size ∙ format-sound head (format_of (number_at Big 4 0 head)) is

pub no_header : (head : List ℕ) → length head ≡ 24 → is_ethernet (flaw_in head (format_of (number_at Big 4 0 head))) ≡ false
    → IsNoCapture head
no_header head size is = grind (arith, format-flawed, whole-header)

-- fewer bytes are none
pub short_header : (head : List ℕ) → length head < 24 → IsNoCapture head
short_header head short = (fault.ShortHeader, grind (arith, lt-ltb, short))

-- ---- of a longer text

-- the fault of the bytes of a file is that of its head
head-fault : (bytes : List ℕ) → (length bytes < 24) ⊎ (24 ≤ length bytes) → header_fault bytes ≡ header_fault (head_of bytes)
head-fault bytes (inl short) = ap header_fault (sym (take_all 24 bytes (omega (arith, short))))
head-fault bytes (inr all) = grind (arith, length-take-le 24 bytes all, take-append-drop 24 bytes, header_fault-append, whole-header)

-- the bytes that were read are the head
came : (old new : Option (List ℕ)) (head : List ℕ) → Consumes old new head → IfSome new (λ rest. head_of (head ++ rest) ≡ head)
    → IfSome old (λ bytes. (header_fault bytes ≡ header_fault head) × (head_of bytes ≡ head))
came None new head takes known = tt
came (Some bytes) None head takes known = absurd takes
came (Some bytes) (Some rest) head takes known = grind (arith, head-fault bytes (cases_lt (length bytes) 24))

pub begun-sound : (old new : Option (List ℕ)) (head : List ℕ) → Consumes old new head → IfSome new (λ rest. head_of (head ++ rest) ≡ head)
    → header_fault head ≡ None → IfSome old (λ bytes. header_fault bytes ≡ None)
begun-sound old new head takes known sound = grind (arith, came)

pub flaw-came : (old new : Option (List ℕ)) (head : List ℕ) (found : Flaw) → Consumes old new head
    → IfSome new (λ rest. head_of (head ++ rest) ≡ head) → IsNoCapture head → found ≡ flaw_of head
    → IfSome old (λ bytes. IsNoCapture bytes × (found ≡ flaw_of (head_of bytes)))
flaw-came old new head found takes known none is = grind (arith, came)

-- and they are given again
pub given-again : (old new : Option (List ℕ)) (head : List ℕ) → Consumes old new head → Keeps old (prepend_known head new)
given-again None new head takes = tt
given-again (Some bytes) None head takes = absurd takes
given-again (Some bytes) (Some rest) head takes = sym takes

-- no byte of it is left
pub nothing-left : {E : Type 0} (header : List ℕ) (at : ℕ) (a b : Option (List ℕ)) (read : Result ℕ E) (to : List ℕ) → length header ≤ at
    → ReadConsumes a b read to → ReadConsumes (prepend_known (drop at header) a) (prepend_known (drop at header) b) read to
nothing-left header at a b read to past is = rw (drop_all at header past, prepend_known-nil a, prepend_known-nil b) is

-- a read of a file header that is left from an index on gives its front
pub header-read : (header left to copied : List ℕ) (at n : ℕ) (known : Option (List ℕ)) → left ≡ drop at header → at < length header
    → n ≡ min (length left) (length to) → copied ≡ take n left
    → Consumes (prepend_known (drop at header) known) (prepend_known (drop (at + n) header) known) (take n (copied ++ drop n to))
    × (n ≡ 0 → 0 < length (copied ++ drop n to) → IsAtEnd (prepend_known (drop (at + n) header) known))
header-read header left to copied at n known whole some least same =
    let long : length copied ≡ n = ap length same ∙ length-take-le n left (omega (arith, least)) in
    let front : take n (copied ++ drop n to) ≡ take n left =
    ap (λ (k : ℕ). take k (copied ++ drop n to)) (sym long) ∙ take-append_seam copied (drop n to) ∙ same in
    let never : (n ≡ 0) × (0 < length (copied ++ drop n to)) → ⊥ =
    λ p. omega (arith, least, long, p.0, p.1, length-append copied (drop n to), length-drop n to, ap length whole, length-drop at header) in
    let parts : drop at header ≡ take n left ++ drop (at + n) header = sym whole ∙ sym (take-append-drop n left)
    ∙ ap (λ (rest : List ℕ). take n left ++ rest) (ap (drop n) whole ∙ drop-drop n at header) in
    let read = prepend_known-read (prepend_known (drop at header) known) known (drop at header) (drop (at + n) header) (take n left)
    ((n ≡ 0) × (0 < length (copied ++ drop n to))) (Keeps-refl _) parts (λ p. absurd (never p)) in
    (rw front read.0, λ zero room. read.1 (zero, room))
