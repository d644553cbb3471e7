-- Readings of captures agree in all that a page tells.
use Rattle.std.proofs.Common.{◌≡◌, ◌∙◌, ℕ, suc, sym, ◌+◌, ◌==◌, if◌then◌else◌, Bool, true, false, ap, inl, inr, refl, subst, arith}
use Rattle.std.proofs.{Common.{List, [], ◌∷◌, ◌++◌, Option, Some, None, drop, get_or, length, map}, lemmas.List.Sums.{sum-map}}
use Rattle.std.specs.{Prelude.{codes, sum, sum_by}, List.{flat_map, range_with_len}}
use Rattle.mdns_capture.specs.{declared.cause.Cause.{Cause}, Savefile.{PacketAt}}
use Rattle.mdns_message.specs.Message.{IsIgnored, IsQuery}
use Rattle.mdns_browse.specs.Services.{AreEach}
use Rattle.mdns_survey.specs.{declared.{outcome.SkipReason.{SkipReason}, reading.Reading.{Reading}}, Outcomes.{Outcome}}
use Rattle.mdns_survey.specs.{Readings.{lost_in, refused_in, skipped_in, summaries_of}, Skips.{IsSkipOf, count_of}}
use Rattle.mdns_survey.specs.{Surveys.{AllLeft}, Reasons.{row_of}}
use Rattle.mdns_survey.specs.declared.outcome.SkipReason.TheVariants as why
use Rattle.mdns_survey.proofs.{LossLemmas.{NeverBoth, SkipsByCause, no-cause}, OutcomeLemmas.{OnePayload}}
use Rattle.mdns_listeners.specs.Groups.{Grouped}
use Rattle.mdns_page.specs.{ByListener.{facts_by, facts_of, files_of}, Page.{endings_of}}
use Rattle.mdns_page.specs.SkippedSection.{skipped_text, others as reasons, row_text, table_text, warnings}

-- ---- why packets are skipped

module _ {X Y : Type 0} (Is : X → Y → Type 0) (one : (x : X) (y z : Y) → Is x y → Is x z → y ≡ z) where
  -- of each value there is one of the other kind
  pub one-each : (xs : List X) (ys zs : List Y) → AreEach Is xs ys → AreEach Is xs zs → ys ≡ zs
  one-each [] [] [] each other = refl
  one-each [] [] (z ∷ zs) each other = absurd other
  one-each [] (y ∷ ys) zs each other = absurd each
  one-each (x ∷ xs) [] zs each other = absurd each
  one-each (x ∷ xs) (y ∷ ys) [] each other = absurd other
  one-each (x ∷ xs) (y ∷ ys) (z ∷ zs) each other = grind (arith, one-each xs ys zs each.1 other.1)

-- both readings say the same of a capture
pub record IsAlike (a b : Reading) : Type 0 where
  pub summary : a.summary ≡ b.summary
  pub lost : a.lost ≡ b.lost
  pub span : a.span ≡ b.span
  pub skips : (reason : SkipReason) → count_of reason a.skips ≡ count_of reason b.skips

module _ (payload : OnePayload) (never : NeverBoth) (by_cause : SkipsByCause) where
  -- a frame that fails a check carries nothing
  carries-none : (packet : PacketAt) (cause : Cause) (reason : Option SkipReason) → IsSkipOf packet (Some (why.Frame cause))
      → IsSkipOf packet reason → ((other : Cause) → reason ≡ Some (why.Frame other) → ⊥) → ⊥
  carries-none packet cause (Some (why.Frame other)) fails is not_frame = not_frame other refl
  carries-none packet cause (Some why.Query) fails is not_frame = grind (arith, no-cause never by_cause packet.frame is.0 is.1)
  carries-none packet cause (Some why.Ignored) fails is not_frame = grind (arith, no-cause never by_cause packet.frame is.0 is.1)
  carries-none packet cause None fails is not_frame = grind (arith, no-cause never by_cause packet.frame is.0 is.1)

  -- a packet is skipped for one reason
  one-why : (packet : PacketAt) (a b : Option SkipReason) → IsSkipOf packet a → IsSkipOf packet b → a ≡ b
  one-why packet (Some (why.Frame cause)) (Some (why.Frame other)) is too = grind arith
  one-why packet (Some (why.Frame cause)) (Some why.Query) is too =
      absurd (carries-none packet cause (Some why.Query) is too (λ other e. cc))
  one-why packet (Some (why.Frame cause)) (Some why.Ignored) is too =
      absurd (carries-none packet cause (Some why.Ignored) is too (λ other e. cc))
  one-why packet (Some (why.Frame cause)) None is too = absurd (carries-none packet cause None is too (λ other e. cc))
  one-why packet (Some why.Query) (Some (why.Frame cause)) is too =
      absurd (carries-none packet cause (Some why.Query) too is (λ other e. cc))
  one-why packet (Some why.Ignored) (Some (why.Frame cause)) is too =
      absurd (carries-none packet cause (Some why.Ignored) too is (λ other e. cc))
  one-why packet None (Some (why.Frame cause)) is too = absurd (carries-none packet cause None too is (λ other e. cc))
  one-why packet (Some why.Query) (Some why.Query) is too = refl
  one-why packet (Some why.Ignored) (Some why.Ignored) is too = refl
  one-why packet None None is too = refl
  one-why packet (Some why.Query) (Some why.Ignored) is too =
      absurd ((subst IsIgnored (payload packet.frame too.0 is.0 too.1 is.1) too.2).1 is.2.1)
  one-why packet (Some why.Ignored) (Some why.Query) is too =
      absurd ((subst IsIgnored (payload packet.frame is.0 too.0 is.1 too.1) is.2).1 too.2.1)
  one-why packet (Some why.Query) None is too =
      absurd (too.2 (inl (subst IsQuery (payload packet.frame is.0 too.0 is.1 too.1) is.2)))
  one-why packet (Some why.Ignored) None is too =
      absurd (too.2 (inr (subst IsIgnored (payload packet.frame is.0 too.0 is.1 too.1) is.2)))
  one-why packet None (Some why.Query) is too =
      absurd (is.2 (inl (subst IsQuery (payload packet.frame too.0 is.0 too.1 is.1) too.2)))
  one-why packet None (Some why.Ignored) is too =
      absurd (is.2 (inr (subst IsIgnored (payload packet.frame too.0 is.0 too.1 is.1) too.2)))

  -- readings of one list of packets that have the same summaries
  pub are-alike : (lefts : List (Option (List ℕ))) (packets : List (List PacketAt)) (outcomes more : List (List Outcome))
      (readings others : List Reading) → AllLeft lefts packets outcomes readings → AllLeft lefts packets more others
      → summaries_of readings ≡ summaries_of others → AreEach IsAlike readings others
  are-alike [] [] [] [] [] [] read too same = tt
  are-alike (left ∷ lefts) (packets ∷ ps) (outcomes ∷ os) (more ∷ ms) (reading ∷ rs) (other ∷ others) read too same =
      grind (arith, one-each, one-why, are-alike lefts ps os ms rs others read.1 too.1 (ap (drop 1) same))
  are-alike [] [] [] more [] others read too same = absurd too
  are-alike (left ∷ lefts) (packets ∷ ps) (outcomes ∷ os) more (reading ∷ rs) others read too same = absurd too
  are-alike lefts packets outcomes more readings others read too same = absurd read

-- ---- what a page tells of readings

maps-alike : {Y : Type 0} (of : Reading → Y) → ((a b : Reading) → IsAlike a b → of a ≡ of b) → (readings others : List Reading)
    → AreEach IsAlike readings others → map of readings ≡ map of others
maps-alike of same [] [] alike = refl
maps-alike of same [] (y ∷ ys) alike = absurd alike
maps-alike of same (x ∷ xs) [] alike = absurd alike
maps-alike of same (x ∷ xs) (y ∷ ys) alike = grind (arith, maps-alike of same xs ys alike.1)

-- a sum over them
sums-alike : (of : Reading → ℕ) → ((a b : Reading) → IsAlike a b → of a ≡ of b) → (readings others : List Reading)
    → AreEach IsAlike readings others → sum_by of readings ≡ sum_by of others
sums-alike of same xs ys alike = sym (sum-map of xs) ∙ ap sum (maps-alike of same xs ys alike) ∙ sum-map of ys

pub lost-alike : (readings others : List Reading) → AreEach IsAlike readings others → lost_in readings ≡ lost_in others
lost-alike = grind (arith, sums-alike)

keeps-alike : (b : Bool) (x y : Reading) (xs ys : List Reading) → IsAlike x y → AreEach IsAlike xs ys
    → AreEach IsAlike (if b then x ∷ xs else xs) (if b then y ∷ ys else ys)
keeps-alike true x y xs ys first rest = (first, rest)
keeps-alike false x y xs ys first rest = rest

files-alike : (of : List ℕ) (place listener : ℕ) (readings others : List Reading) → AreEach IsAlike readings others
    → AreEach IsAlike (files_of of place listener readings) (files_of of place listener others)
files-alike of place listener [] [] alike = tt
files-alike of place listener [] (y ∷ ys) alike = absurd alike
files-alike of place listener (x ∷ xs) [] alike = absurd alike
files-alike of place listener (x ∷ xs) (y ∷ ys) alike = grind (arith, keeps-alike, files-alike of (suc place) listener xs ys alike.1)

-- what the page tells of a listener's files
facts-same : (name : List ℕ) (readings others : List Reading) → AreEach IsAlike readings others
    → facts_of name readings ≡ facts_of name others
facts-same name readings others alike = grind (arith, sums-alike, maps-alike)

-- and of all
pub facts-alike : (groups : Grouped) (readings others : List Reading) → AreEach IsAlike readings others
    → facts_by groups readings ≡ facts_by groups others
facts-alike groups readings others alike i =
    map (λ (listener : ℕ). facts-same (get_or groups.names listener []) (files_of groups.by_file 0 listener readings)
    (files_of groups.by_file 0 listener others) (files-alike groups.by_file 0 listener readings others alike) i)
    (range_with_len 0 (length groups.names))

pub endings-alike : (names : List (List ℕ)) (readings others : List Reading) → AreEach IsAlike readings others
    → endings_of names readings ≡ endings_of names others
endings-alike [] readings others alike = refl
endings-alike (name ∷ names) [] [] alike = refl
endings-alike (name ∷ names) [] (y ∷ ys) alike = absurd alike
endings-alike (name ∷ names) (x ∷ xs) [] alike = absurd alike
endings-alike (name ∷ names) (x ∷ xs) (y ∷ ys) alike = grind (arith, endings-alike names xs ys alike.1)

-- ---- the table of skipped packets

module _ (readings others : List Reading) (alike : AreEach IsAlike readings others) where
  skipped-alike : (reason : SkipReason) → skipped_in reason readings ≡ skipped_in reason others
  skipped-alike reason = grind (arith, sums-alike)

  refused-alike : refused_in readings ≡ refused_in others
  refused-alike = grind (arith, sums-alike)

  untold-alike : sum_by (λ (r : Reading). r.summary.tally.skipped + r.summary.tally.refused) readings
      ≡ sum_by (λ (r : Reading). r.summary.tally.skipped + r.summary.tally.refused) others
  untold-alike = grind (arith, sums-alike)

  table-alike : table_text readings ≡ table_text others
  unfolding table_text
  table-alike i =
      codes "<table>\n" ++ flat_map (λ (warning : List ℕ × List SkipReason). flat_map (λ (reason : SkipReason).
      row_text (skipped-alike reason i) (row_of reason).words true warning.0) warning.1) warnings
      ++ row_text (refused-alike i) (codes "damaged message") true (codes "damaged: refused whole")
      ++ flat_map (λ (reason : SkipReason). row_text (skipped-alike reason i) (row_of reason).words false (codes "normal")) reasons
      ++ codes "</table>\n"

  pub section-alike : skipped_text readings ≡ skipped_text others
  unfolding skipped_text
  section-alike i =
      codes "<h2 id=\"nothing\">Skipped and refused packets</h2>\n"
      ++ (if untold-alike i == 0 then codes "<p class=\"note\">None.</p>\n" else table-alike i)
