-- Captures are read in one way.
use Rattle.std.proofs.Common.{◌≡◌, ◌∙◌, ℕ, ◌+◌, ◌*◌, ◌≤◌, List, [], ◌∷◌, refl, sym, subst}
use mathlib.Core.HLevel.{is_prop→PathP}
use Rattle.std.proofs.Math.{Bridge.{le_prop}, Nat.{ℕ_set}}
use Rattle.mdns_capture.specs.Savefile.{PacketAt}
use Rattle.mdns_survey.specs.{declared.summary.Summary.{Summary}, declared.summary.Tally.{Tally}, Outcomes.{AllRead, Counts, Outcome}}
use Rattle.mdns_survey.proofs.OutcomeLemmas.{OneReading, OneTelling}

same_tally : (outcomes : List Outcome) (a b : Tally) → Counts outcomes a → Counts outcomes b → a ≡ b
same_tally outcomes a b first second =
    let packets = first.packets ∙ sym second.packets in
    let skipped = first.skipped ∙ sym second.skipped in
    let refused = first.refused ∙ sym second.refused in
    let messages = first.messages ∙ sym second.messages in
    let hearings = first.hearings ∙ sym second.hearings in
    λ i. record {
      packets = packets i;
      skipped = skipped i;
      refused = refused i;
      messages = messages i;
      hearings = hearings i;
      whole = is_prop→PathP (λ j. packets j ≡ skipped j + refused j + messages j)
          (λ j. ℕ_set (packets j) (skipped j + refused j + messages j)) a.whole b.whole i;
      few = is_prop→PathP (λ j. hearings j ≤ messages j * 131070) (λ j. le_prop) a.few b.few i;
    }

-- captures are read in one way
pub one-read : OneReading → OneTelling → (captures : List (List ℕ)) (packets more : List (List PacketAt))
    (outcomes others : List (List Outcome)) (summaries after : List Summary) → AllRead captures packets outcomes summaries
    → AllRead captures more others after → (packets ≡ more) × (outcomes ≡ others) × (summaries ≡ after)
one-read one telling [] [] [] [] [] [] [] first second = (refl, refl, refl)
one-read one telling (bytes ∷ captures) (ps ∷ packets) (qs ∷ more) (outcomes ∷ rest) (others ∷ latter) (summary ∷ summaries) (other ∷ after)
    first second =
    let reads = one bytes ps qs summary.ending other.ending first.0 second.0 in
    let told = telling bytes outcomes others summary.ending other.ending
    record { packets = ps; reads = first.0; come = first.1 } record { packets = qs; reads = second.0; come = second.1 } in
    let counts : Counts others summary.tally = subst (λ (os : List Outcome). Counts os summary.tally) told.0 first.2 in
    let tally = same_tally others summary.tally other.tally counts second.2 in
    let alike = one-read one telling captures packets more rest latter summaries after first.3 second.3 in (
      λ i. reads.0 i ∷ alike.0 i,
      λ i. told.0 i ∷ alike.1 i,
      λ i. record { tally = tally i; ending = told.1 i } ∷ alike.2 i,
    )
one-read one telling [] [] more [] others [] after first second = absurd second
one-read one telling (bytes ∷ captures) (ps ∷ packets) more (outcomes ∷ rest) others (summary ∷ summaries) after first second =
    absurd second
one-read one telling captures packets more outcomes others summaries after first second = absurd first
