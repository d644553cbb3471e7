-- One packet more of a capture is counted and heard.
use Rattle.std.proofs.Common.{arith, ◌≡◌, ℕ, List, [], ◌∷◌, ◌++◌, Option, Some, None, IfSome, sym, subst, append_assoc, append-nil}
use Rattle.std.proofs.lemmas.List.Concat.{flat_map-append}
use Rattle.mdns_capture.specs.Savefile.{PacketAt, snap_length}
use Rattle.mdns_message.specs.declared.hearing.Hearing.{Hearing}
use Rattle.mdns_cache.specs.{Contents.{Contents, StandsFor}, Repeats.{Listened, StandsWith}}
use Rattle.mdns_survey.specs.{declared.reading.Reading.{Reading}, Outcomes.{Outcome, hearings_in, hearings_of_outcome}}
use Rattle.mdns_survey.specs.{Listen.{HearsPackets, Listens, TakesCapture}, Reading.{ReadsCapture}}

module _ {H : Type 0} (Stands : H → H → List Hearing → Type 0) where
  -- a hearer takes these hearings
  abbrev pub HearsOf : H → H → List Hearing → Type 0
  HearsOf hearer new_hearer hearings =
      (begun : H) (heard : List Hearing) → Stands begun hearer heard → Stands begun new_hearer (heard ++ hearings)

  -- without hearings nothing changes
  pub hears-nothing : (hearer : H) → HearsOf hearer hearer []
  hears-nothing hearer begun heard stands =
      subst (λ (hs : List Hearing). Stands begun hearer hs) (sym (append-nil heard)) stands

  -- one packet more
  pub hears-more : (first hearer new_hearer : H) (packets : List PacketAt) (outcomes : List Outcome) (packet : PacketAt)
      (outcome : Outcome) → HearsOf hearer new_hearer (hearings_of_outcome outcome)
      → HearsPackets Stands first hearer packets outcomes
      → HearsPackets Stands first new_hearer (packets ++ packet ∷ []) (outcomes ++ outcome ∷ [])
  hears-more first hearer new_hearer packets outcomes packet outcome takes hears begun heard before =
      grind (arith, flat_map-append, append-nil, append_assoc)

-- a consumer took all packets of a capture that was read whole
pub takes_read : {C : Type 0} (Took : C → C → List PacketAt → List Outcome → Type 0) (left : Option (List ℕ)) (old new : C)
    (reading : Reading) → IfSome left (λ bytes. reading.snap_length ≡ snap_length bytes)
    → ReadsCapture Took left old new reading → TakesCapture Took left old new reading
takes_read Took left old new reading states read = record {
  packets = read.packets;
  outcomes = read.outcomes;
  is_reading = record {
    reads = read.reads;
    states = states;
    come = read.come;
    counts = read.counts;
    losses = read.losses;
    skips = read.skips;
    spans = read.spans;
  };
  took = read.took;
}

-- the cache that is made at the end stands for the capture's hearings
pub listens-heard : (left : Option (List ℕ)) (empty gathering : Listened) (cache : Contents) (reading : Reading)
    → StandsWith empty.contents empty.memory []
    → ((heard : List Hearing) → StandsWith gathering.contents gathering.memory heard → StandsFor cache heard)
    → TakesCapture (HearsPackets (λ _ (l : Listened). StandsWith l.contents l.memory)) left empty gathering reading
    → IfSome left (λ bytes. Listens bytes
    (record { cache = cache; tally = reading.summary.tally; ending = reading.summary.ending }))
listens-heard None empty gathering cache reading nothing finish heard = tt
listens-heard (Some bytes) empty gathering cache reading nothing finish heard = record {
  outcomes = heard.outcomes;
  tells = record { packets = heard.packets; reads = heard.is_reading.reads; come = heard.is_reading.come };
  counts = heard.is_reading.counts;
  stands = finish (hearings_in heard.outcomes)
      (heard.took empty (hears-nothing (λ _ (l : Listened). StandsWith l.contents l.memory) empty) empty [] nothing);
}
