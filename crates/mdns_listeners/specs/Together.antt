-- Listeners that recorded together, so that what they heard tells whether they share one clock and one link.
use Rattle.std.specs.Prelude.{ℕ, ◌-◌, ◌*◌, ◌&&◌, max, min, nat_le, nat_lt, Bool, false, List, [], slice_index_or, Option, Some, None}
use Rattle.std.specs.List.{filter}
use Rattle.mdns_survey.specs.declared.reading.Span.{Span}
use Rattle.mdns_listeners.specs.{HeardMessage.{HeardRow}, Numbers.{FileSpans}, Pairs.{meet, pair_rows}, declared.pairs.PairRow.{PairRow}}

-- how long the time span is, in nanoseconds
abbrev pub nanos_of : Span → ℕ
nanos_of span = span.last.nanos - span.first.nanos

-- for how long both last, where they meet
abbrev pub nanos_of_both : Span → Span → ℕ
nanos_of_both one other = min one.last.nanos other.last.nanos - max one.first.nanos other.first.nanos

-- two recorded together: their time spans meet, for at least half of the shorter one
abbrev pub recorded_together : Option Span → Option Span → Bool
recorded_together None other = false
recorded_together (Some one) None = false
recorded_together (Some one) (Some other) =
    meet (Some one) (Some other) && nat_le (min (nanos_of one) (nanos_of other)) (2 * nanos_of_both one other)

-- from a listener's earliest packet to its latest, if there is such a listener and it has packets
abbrev pub span_at : List FileSpans → ℕ → Option Span
span_at spans listener = (slice_index_or spans listener (record { spans = []; whole = None })).whole

-- the listeners of a row recorded together
abbrev pub is_together : List FileSpans → PairRow → Bool
is_together spans row = recorded_together (span_at spans row.one) (span_at spans row.other)

-- the rows of all pairs that recorded together, in order
abbrev pub pairs_together : List HeardRow → List FileSpans → List PairRow
pairs_together rows spans = filter (is_together spans) (pair_rows rows spans)

-- so many files are compared for warnings: each two of them are looked at
abbrev pub are_compared : ℕ → Bool
are_compared count = nat_lt 1 count && nat_le count 64
