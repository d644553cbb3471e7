-- Rows of pairs, one pair after another.
use Rattle.std.proofs.Common.{arith, ◌≡◌, ℕ, ◌+◌, ◌<◌, Bool, List, [], ◌∷◌, ◌++◌, length, drop, get_or, ap, cond}
use Rattle.std.proofs.{Common.{append_assoc}, lemmas.Bool.Decides.{nat_tests}, lemmas.List.{drop_more}}
use Rattle.std.specs.List.{enumerate_from}
use Rattle.mdns_listeners.specs.{HeardMessage.{HeardRow}, Numbers.{FileSpans}}
use Rattle.mdns_listeners.specs.{Pairs.{is_pair, pair_row, pair_rows_at, pair_rows_of, pair_rows_with}, declared.pairs.PairRow.{PairRow}}

-- the listener at a place, and those behind it
pub listeners_more : (spans : List FileSpans) (i : ℕ) (d : FileSpans) → i < length spans
    → enumerate_from i (drop i spans) ≡ (i, get_or spans i d) ∷ enumerate_from (i + 1) (drop (i + 1) spans)
listeners_more spans i d short = ap (enumerate_from i) (drop_more spans i d short)

pub with_more : (rows : List HeardRow) (one : ℕ × FileSpans) (spans : List FileSpans) (i : ℕ) (d : FileSpans) → i < length spans
    → pair_rows_with rows one (enumerate_from i (drop i spans))
    ≡ pair_rows_at rows one (i, get_or spans i d) ++ pair_rows_with rows one (enumerate_from (i + 1) (drop (i + 1) spans))
with_more rows one spans i d short = ap (pair_rows_with rows one) (listeners_more spans i d short)

pub of_more : (rows : List HeardRow) (spans : List FileSpans) (i : ℕ) (d : FileSpans) → i < length spans
    → pair_rows_of rows (enumerate_from i (drop i spans))
    ≡ pair_rows_with rows (i, get_or spans i d) (enumerate_from (i + 1) (drop (i + 1) spans))
    ++ pair_rows_of rows (enumerate_from (i + 1) (drop (i + 1) spans))
of_more rows spans i d short = ap (pair_rows_of rows) (listeners_more spans i d short)

-- the rows so far, and those with the listeners behind
pub pair_more : (rows : List HeardRow) (one : ℕ × FileSpans) (spans : List FileSpans) (i : ℕ) (d : FileSpans) (b : Bool)
    (ys zs total : List PairRow) → i < length spans → b ≡ is_pair rows one (i, get_or spans i d)
    → zs ≡ ys ++ cond b (pair_row rows one.0 i ∷ []) []
    → ys ++ pair_rows_with rows one (enumerate_from i (drop i spans)) ≡ total
    → zs ++ pair_rows_with rows one (enumerate_from (i + 1) (drop (i + 1) spans)) ≡ total
pair_more rows one spans i d b ys zs total short judged push before = grind (arith, nat_tests, append_assoc, with_more)

pub listener_more : (rows : List HeardRow) (spans : List FileSpans) (i : ℕ) (d : FileSpans) (ys zs total : List PairRow)
    → i < length spans
    → zs ≡ ys ++ pair_rows_with rows (i, get_or spans i d) (enumerate_from (i + 1) (drop (i + 1) spans))
    → ys ++ pair_rows_of rows (enumerate_from i (drop i spans)) ≡ total
    → zs ++ pair_rows_of rows (enumerate_from (i + 1) (drop (i + 1) spans)) ≡ total
listener_more rows spans i d ys zs total short push before = grind (arith, nat_tests, append_assoc, of_more)
