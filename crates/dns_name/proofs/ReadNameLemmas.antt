-- Reading a name step by step: the octets read so far, followed by any name at the offset where reading goes on.
use Rattle.std.proofs.Common.{◌≡◌, ℕ, suc, ◌+◌, ◌-◌, ◌<◌, ◌≤◌, List, [], ◌∷◌, ◌++◌, length, take, drop, refl, sym, ◌∙◌}
use Rattle.std.proofs.Common.{ap, subst, arith, append_assoc, length-append, length-take, length-drop}
use Rattle.std.specs.{Prelude.{Option, Some, None, unwrap_or, slice_range}, Option.{option_or}}
use lib.Seq.{take-add}
use Rattle.std.proofs.lemmas.List.{append-nil, drop-drop, drop_more}
use Rattle.dns_name.specs.{Name.{IsForm, IsWire, wire_of}, NameAt.{NameStands, NameReads, ReadsOnto, RootAt, LabelAt, LabelEnds}}
use Rattle.dns_name.specs.{NameAt.{PointerLeads}, NameAt.NameStands.{root, label, pointer}, FirstFault.{NameFailsUnder, NameFails}}
use Rattle.dns_name.specs.{FirstFault.NameFailsUnder.{after_label, after_pointer}, declared.fault.NameReadFault.{NameReadFault}}
use Rattle.dns_name.specs.Pointer.{PointersLead}
use Rattle.dns_name.proofs.{NameLemmas.{label_length}, PointerLemmas.{name_along, fault_along}}
use Rattle.std.proofs.Common.{rules}

-- the octets `bytes` of the name at offset `at` were read, and reading goes on at `offset` in the run that
-- begins at `start`; `after` is where m goes on after the first pointer, if there was one
pub record Reading (m : List ℕ) (at offset start : ℕ) (bytes : List ℕ) (after : Option ℕ) : Type 0 where
  pub stands : (n : List ℕ) (q : ℕ) → NameStands m offset start n q → NameStands m at at (bytes ++ n) (unwrap_or after q)
  pub fails : (f : NameReadFault) → NameFailsUnder m offset start (length bytes) f → NameFails m at f
  pub short : length bytes ≤ 255

-- a label more
pub reading_label : (m : List ℕ) (at offset start : ℕ) (bytes whole : List ℕ) (after : Option ℕ) (end : ℕ)
    → LabelEnds m offset (length bytes) end → whole ≡ bytes ++ slice_range m offset end
    → Reading m at offset start bytes after → Reading m at end start whole after
reading_label m at offset start bytes whole after end (k, a, fits, ends) e r =
    let part : length (slice_range m offset (offset + 1 + k)) ≡ k + 1 = label_length m offset k a in
    let same : whole ≡ bytes ++ slice_range m offset (offset + 1 + k) = rw (← ends) e in
    let longer : length whole ≡ length bytes + k + 1 = rw (same, length-append) (omega arith) in
    record {
      stands = λ n q d.
          let P : ℕ → Type 0 = λ i. NameStands m i start n q in
          rw (same, append_assoc) (r.stands (slice_range m offset (offset + 1 + k) ++ n) q (label k n a (subst P ends d) refl));
      fails = λ f d.
          let P : ℕ → Type 0 = λ i. NameFailsUnder m i start (length whole) f in
          let Q : ℕ → Type 0 = λ i. NameFailsUnder m (offset + 1 + k) start i f in
          r.fails f (after_label k a fits (subst Q longer (subst P ends d)));
      short = omega arith;
    }

-- a pointer followed, and those after it as far as `end`
pub reading_pointer : (m : List ℕ) (at offset start : ℕ) (bytes : List ℕ) (after later : Option ℕ) (target end : ℕ)
    → PointerLeads m offset start target → PointersLead m target end → later ≡ option_or after (Some (offset + 2))
    → Reading m at offset start bytes after → Reading m at end end bytes later
reading_pointer m at offset start bytes after later target end (a, leads) further e r =
    let first : (q : ℕ) → unwrap_or later q ≡ unwrap_or after (offset + 2) = λ q. rw e (first_after after (offset + 2) q) in
    record {
      stands = λ n q d.
          let all = name_along m n q further d in
          rw (first q) (r.stands n (offset + 2) (pointer target all.0 a leads all.1 refl));
      fails = λ f d. r.fails f (after_pointer target a leads (fault_along m (length bytes) f further d));
      short = r.short;
    }
  where
    first_after : (o : Option ℕ) (p q : ℕ) → unwrap_or (option_or o (Some p)) q ≡ unwrap_or o p
    first_after None p q = refl
    first_after (Some x) p q = refl

-- the zero octet ends the name
pub reading_ends : (m : List ℕ) (at offset start : ℕ) (bytes whole : List ℕ) (after : Option ℕ) → RootAt m offset
    → whole ≡ bytes ++ 0 ∷ [] → Reading m at offset start bytes after → NameReads m at whole (unwrap_or after (offset + 1))
reading_ends m at offset start bytes whole after a e r = record {
  stands = rw e (r.stands (0 ∷ []) (offset + 1) (root a refl refl));
  short = rw (e, length-append) (let h : length bytes ≤ 255 = r.short in omega arith);
}

-- a label with its length octet, apart
label_apart : (m : List ℕ) (p k : ℕ) → LabelAt m p k → slice_range m p (p + 1 + k) ≡ k ∷ take k (drop (p + 1) m)
label_apart m p k a = grind (arith, drop_more)

-- a label before labels
form_more : (k : ℕ) (octets rest n : List ℕ) → length octets ≡ k → 1 ≤ k → k ≤ 63 → IsForm rest → n ≡ k ∷ octets ++ rest → IsForm n
form_more k octets rest n count some few after e = record {
  labels = octets ∷ after.labels;
  sized = (record { some_bytes = omega arith; few_bytes = omega arith }, after.sized);
  wire =
      let wire : rest ≡ wire_of after.labels = after.wire in
      e ∙ sym (ap (λ i. i ∷ octets ++ rest) count) ∙ ap (λ xs. length octets ∷ octets ++ xs) wire;
}

-- the octets of a name at an offset are the wire form of labels
pub name_form : (m : List ℕ) {p s : ℕ} {n : List ℕ} {q : ℕ} → NameStands m p s n q → IsForm n
name_form m (root a e g) = record { labels = []; sized = tt; wire = e }
name_form m {p} (label k rest a d e) =
    let whole : p + 1 + k ≤ length m = a.whole in
    let count : length (take k (drop (p + 1) m)) ≡ k = simp (length-take, length-drop) (omega arith) in
    form_more k (take k (drop (p + 1) m)) rest _ count a.some a.few (name_form m d) (e ∙ ap (λ xs. xs ++ rest) (label_apart m p k a))
name_form m (pointer t after a h d g) = name_form m d

-- a name that is read is the wire form of a name
pub name_wire : (m : List ℕ) (p : ℕ) (n : List ℕ) (q : ℕ) → NameReads m p n q → IsWire n
name_wire m p n q r = record { form = name_form m r.stands; short = r.short }

-- a part of m and the part after it
parts_joined : (m : List ℕ) (a b c : ℕ) → a ≤ b → b ≤ c → slice_range m a b ++ slice_range m b c ≡ slice_range m a c
parts_joined m a b c early late =
    let same : (b - a) + (c - b) ≡ c - a = omega arith in
    let at : a + (b - a) ≡ b = omega arith in
    let on : drop (b - a) (drop a m) ≡ drop b m = drop-drop (b - a) a m ∙ ap (λ i. drop i m) at in
    rw (← same, take-add (b - a) (c - b) (drop a m), on) refl

no_part : (m : List ℕ) (a : ℕ) → slice_range m a a ≡ []
no_part m a = let none : a - a ≡ 0 = omega arith in rw none refl

root_part : (m : List ℕ) (p : ℕ) → RootAt m p → slice_range m p (p + 1) ≡ 0 ∷ []
root_part m p a = grind (arith, drop_more)

-- the octets of a name were read up to `offset`, `used` of them: those in `bytes` after `before`, and those of the
-- run that begins at `start`, which are still to be appended
pub record ReadingRun (m : List ℕ) (at offset start used : ℕ) (before bytes : List ℕ) (after : Option ℕ) : Type 0 where
  pub name : List ℕ
  pub whole : bytes ≡ before ++ name
  pub reading : Reading m at offset start (name ++ slice_range m start offset) after
  pub count : used ≡ length (name ++ slice_range m start offset)
  pub few : used ≤ 255
  pub ordered : start ≤ offset

pub run_label : (m : List ℕ) (at offset start used more end : ℕ) (before bytes : List ℕ) (after : Option ℕ)
    → LabelEnds m offset used end → more ≡ used + (end - offset) → ReadingRun m at offset start used before bytes after
    → ReadingRun m at end start more before bytes after
run_label m at offset start used more end before bytes after (k, a, fits, ends) e r =
    let part : length (slice_range m offset (offset + 1 + k)) ≡ k + 1 = label_length m offset k a in
    let early : start ≤ offset = r.ordered in
    let joined : slice_range m start offset ++ slice_range m offset end ≡ slice_range m start end =
    parts_joined m start offset end early (omega arith) in
    let whole : r.name ++ slice_range m start end ≡ (r.name ++ slice_range m start offset) ++ slice_range m offset end =
    ap (λ xs. r.name ++ xs) (sym joined)
    ∙ sym (append_assoc r.name (slice_range m start offset) (slice_range m offset end)) in
    let P : ℕ → Type 0 = λ i. LabelEnds m offset i end in
    let longer : length (slice_range m offset end) ≡ k + 1 = rw ends part in
    let sum :
    length (r.name ++ slice_range m start end)
    ≡ length (r.name ++ slice_range m start offset) + length (slice_range m offset end) =
    ap length whole ∙ length-append _ _ in
    let before : used ≡ length (r.name ++ slice_range m start offset) = r.count in
    record {
      name = r.name;
      whole = r.whole;
      reading = reading_label m at offset start _ _ after end (subst P r.count (k, a, fits, ends)) whole r.reading;
      count = omega arith;
      few = omega arith;
      ordered = omega arith;
    }

pub run_pointer : (m : List ℕ) (at offset start used : ℕ) (before bytes longer : List ℕ) (after later : Option ℕ)
    (target end : ℕ) → PointerLeads m offset start target → PointersLead m target end
    → later ≡ option_or after (Some (offset + 2)) → longer ≡ bytes ++ slice_range m start offset
    → ReadingRun m at offset start used before bytes after → ReadingRun m at end end used before longer later
run_pointer m at offset start used before bytes longer after later target end leads further e appended r =
    let name = r.name ++ slice_range m start offset in
    let same : name ++ slice_range m end end ≡ name = ap (λ xs. name ++ xs) (no_part m end) ∙ append-nil name in
    let P : List ℕ → Type 0 = λ xs. Reading m at end end xs later in
    record {
      name = name;
      whole = appended ∙ ap (λ xs. xs ++ slice_range m start offset) r.whole ∙ append_assoc before r.name (slice_range m start offset);
      reading = subst P (sym same) (reading_pointer m at offset start name after later target end leads further e r.reading);
      count = r.count ∙ ap length (sym same);
      few = r.few;
      ordered = omega arith;
    }

pub run_ends : (m : List ℕ) (at offset start used : ℕ) (before bytes longer : List ℕ) (after : Option ℕ)
    → RootAt m offset → longer ≡ bytes ++ slice_range m start (offset + 1)
    → ReadingRun m at offset start used before bytes after → ReadsOnto m at before longer (unwrap_or after (offset + 1))
run_ends m at offset start used before bytes longer after a appended r =
    let early : start ≤ offset = r.ordered in
    let run : slice_range m start (offset + 1) ≡ slice_range m start offset ++ 0 ∷ [] =
    sym (parts_joined m start offset (offset + 1) early (omega arith))
    ∙ ap (λ xs. slice_range m start offset ++ xs) (root_part m offset a) in
    record {
      name = r.name ++ slice_range m start (offset + 1);
      reads =
          reading_ends m at offset start _ _ after a
          (ap (λ xs. r.name ++ xs) run ∙ sym (append_assoc r.name (slice_range m start offset) (0 ∷ []))) r.reading;
      whole =
          appended
          ∙ ap (λ xs. xs ++ slice_range m start (offset + 1)) r.whole
          ∙ append_assoc before r.name (slice_range m start (offset + 1));
    }
