-- What a file is, from the bytes that were read of it.
use Rattle.std.proofs.Common.{◌≡◌, ℕ, zero, suc, ◌+◌, ◌-◌, ◌<◌, ◌≤◌, List, [], ◌++◌, length, take, Option, Some, None, IfSome, IsTrue}
use Rattle.std.proofs.Common.{refl, ap, arith, append-nil, length-take-le}
use Rattle.std.specs.Io.KnownBytes.{IsAtEnd, Keeps}
use lib.Seq.{take-append-add}
use Rattle.mdns_capture.specs.{Capture.{IsOver}, Limits.{file_header_size}, declared.stream.Source.{Ghosts as SourceGhosts}}
use Rattle.mdns_trace.specs.declared.{peeked.BegunReader.{BegunReader}, span_line.CaptureSpans.{CaptureSpans}}
use Rattle.mdns_trace.specs.declared.verdict.Verdict.TheVariants.{Capture, Unread}
use Rattle.mdns_trace.specs.{Flaw.{head_of}, SpanLine.{IsSpanned}, Usable.{IsUsable, bytes_of}, Verdict.{IsReading, IsVerdict}}

-- A WHOLE CAPTURE

reading-kept : (left kept : Option (List ℕ)) (spanned : CaptureSpans) → Keeps left kept → IsSpanned kept spanned
    → IsReading left spanned.reading
reading-kept None kept spanned same is = grind arith
reading-kept (Some bytes) None spanned same is = absurd same
reading-kept (Some bytes) (Some again) spanned same is = (is.packets, (is.outcomes, rw same at is.is_reading))

module _ {R : Type 0} (source : SourceGhosts R) where
  -- a capture that was begun was read to its end
  pub judged : (reader : Option R) (begun : BegunReader R) (spanned : CaptureSpans) → IsUsable source reader begun
      → IsSpanned (bytes_of source begun) spanned → IsOver spanned.reading.summary.ending → IsVerdict source reader (Capture spanned.reading)
  judged None begun spanned is spans over = absurd is
  judged (Some reader) begun spanned is spans over = (over, reading-kept _ _ spanned is.bytes spans)

  -- or a read failed
  pub unread : (reader : Option R) (begun : BegunReader R) → IsUsable source reader begun → (IsTrue (source.steady begun.inner) → ⊥)
      → IsVerdict source reader Unread
  unread None begun is failed = absurd is
  unread (Some reader) begun is failed = λ steady. failed (is.stays steady)

-- THE FIRST BYTES

none-left : (n : ℕ) (rest : List ℕ) → (0 < n → rest ≡ []) → take n rest ≡ []
none-left zero rest ended = refl
none-left (suc n) rest ended = ap (take (suc n)) (ended (omega arith))

-- the bytes that were read are those up to the end of a file header, and all of them where they are fewer
pub head-known : (left : Option (List ℕ)) (to : List ℕ) (count : ℕ) → length to ≡ file_header_size → count ≤ length to
    → (count < length to → IsAtEnd left) → IfSome left (λ rest. head_of (take count to ++ rest) ≡ take count to)
head-known None to count room within ended = tt
head-known (Some rest) to count room within ended =
    let head = take count to in
    let long : length head ≡ count = length-take-le count to within in
    let least : file_header_size ≡ length head + (file_header_size - count) = omega (arith, long, room, within) in
    let none : take (file_header_size - count) rest ≡ [] =
    none-left (file_header_size - count) rest (λ some. ended (omega (arith, some, room))) in
    grind (arith, take-append-add head rest (file_header_size - count), append-nil head)

-- WHAT FUNCTIONS ARE PROVED BY

pub ruleset for_judge = (judged, unread)
