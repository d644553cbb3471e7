-- What captures tell, one packet and one capture more at a time.
use Rattle.std.proofs.lemmas.{Bool.Decides.{nat_tests}, Grind.{flat_map-append}, List.{get_or_past, map-append, take_all, take_more}}
use Rattle.std.proofs.{lemmas.List.Elements.{All-append, All-cons, All-nil}, Common.{◌<◌, ◌≤◌, ◌-◌, get_or, map, take, Option}}
use Rattle.std.proofs.Common.{◌≡◌, ◌∙◌, ℕ, ◌+◌, suc, refl, sym, ap, subst, List, [], ◌∷◌, ◌++◌, length, append_assoc, append-nil, arith}
use Rattle.std.specs.Prelude.{min}
use Rattle.mdns_capture.specs.{declared.source_address.SourceAddress.{SourceAddress}, Frame.{FrameCarries}, Savefile.{PacketAt}}
use Rattle.mdns_capture.specs.Source.{IsSourceOf}
use Rattle.mdns_message.specs.declared.hearing.Hearing.{Hearing}
use Rattle.mdns_browse.specs.declared.report.Form.{Form}
use Rattle.mdns_survey.proofs.ListenedLemmas.{all_hearings-more}
use Rattle.mdns_survey.specs.{Outcomes.{Outcome, heard, hearings_in, hearings_of_outcome}, declared.reading.Span.{Span}}
use Rattle.mdns_listeners.specs.declared.{listeners.MessageCollector.{MessageCollector}, senders.SenderRow.{SenderRow}}
use Rattle.mdns_listeners.specs.{declared.heard_message.HeardAt.{HeardAt}, HeardMessage.{HeardRow, Told, message_bytes}}
use Rattle.mdns_listeners.specs.{Numbers.{FileSpans, spans_of_listeners}, KeptMessage.{HeardSoFar, HearsMessage}}
use Rattle.mdns_listeners.specs.Listeners.{AreNamed, CapturesTell, Gathered, Gathers, NotesTime, SaysFacts, TellAll, Tells, heard_at}
use Rattle.mdns_listeners.specs.{Listeners.{listener_at}, declared.named_sender.NamedSender.{NamedSender as LentSender}}
use Rattle.mdns_listeners.specs.{NamedSender.{NamedSender, sender_lent}, SenderNames.{AreNames, HoldsNames}}
use Rattle.std.proofs.lemmas.Bool.{false≢true}
use Rattle.std.proofs.lemmas.List.{length-map}
use Rattle.std.proofs.lemmas.Result.{IfOk-weaker}

length-snoc : {X : Type 0} (xs : List X) (x : X) → length (xs ++ x ∷ []) ≡ suc (length xs)
length-snoc [] x = refl
length-snoc (y ∷ ys) x = ap suc (length-snoc ys x)

min-suc : (m n : ℕ) → min (suc (min m n)) n ≡ min (suc m) n
min-suc m n = omega arith

-- a place past the end has the same listener as the end
at-min : (of : List ℕ) (n : ℕ) → listener_at of (min n (length of)) ≡ listener_at of n
at-min of n = grind (arith, get_or_past)

-- one packet more
pub tell-more : (listener : ℕ) (packets : List PacketAt) (outcomes : List Outcome) (packet : PacketAt) (outcome : Outcome)
    (told one : List Told) → TellAll listener packets outcomes told → Tells listener packet outcome one
    → TellAll listener (packets ++ packet ∷ []) (outcomes ++ outcome ∷ []) (told ++ one)
tell-more l [] [] packet outcome told one tell more = search (arith, append-nil)
tell-more l [] (o ∷ os) packet outcome told one tell more = absurd tell
tell-more l (p ∷ ps) [] packet outcome told one tell more = absurd tell
tell-more l (p ∷ ps) (o ∷ os) packet outcome told one (first, (rest, is, here, after)) more =
    grind (arith, append_assoc, tell-more l ps os packet outcome rest one after more)

-- one capture more
pub captures-more : (of : List ℕ) (place : ℕ) (packets : List (List PacketAt)) (outcomes : List (List Outcome))
    (next : List PacketAt) (come : List Outcome) (told one : List Told) → CapturesTell of place packets outcomes told
    → TellAll (listener_at of (place + length packets)) next come one
    → CapturesTell of place (packets ++ next ∷ []) (outcomes ++ come ∷ []) (told ++ one)
captures-more of place [] [] next come told one tell more = grind (arith, append-nil one)
captures-more of place [] (o ∷ os) next come told one tell more = absurd tell
captures-more of place (p ∷ ps) [] next come told one tell more = absurd tell
captures-more of place (p ∷ ps) (o ∷ os) next come told one (first, (rest, is, here, after)) more = (
  first,
  (
    rest ++ one,
    ap (λ ts. ts ++ one) is ∙ append_assoc first rest one,
    here,
    captures-more of (suc place) ps os next come rest one after
        (subst (λ n. TellAll (listener_at of n) next come one) (omega arith) more),
  ),
)

-- WHAT A GATHERER TOOK

pub hearings-more : (outcomes : List Outcome) (outcome : Outcome)
    → hearings_in (outcomes ++ outcome ∷ []) ≡ hearings_in outcomes ++ hearings_of_outcome outcome
hearings-more outcomes outcome = grind (arith, flat_map-append, append-nil)

-- a message that was heard
abbrev told_by : SourceAddress → List ℕ → HeardAt → List Told
told_by source payload at = record { message = message_bytes source payload; at = at } ∷ []

-- a packet that told its hearings was taken
pub gathers-told : (begun old new : MessageCollector) (packets : List PacketAt) (outcomes : List Outcome) (packet : PacketAt)
    (source : SourceAddress) (payload : List ℕ) (hearings : List Hearing) → Gathers begun old packets outcomes
    → new.by_file.items ≡ old.by_file.items → new.place ≡ old.place
    → HearsMessage source payload (heard_at old packet.moment) hearings old.messages new.messages
    → IsSourceOf packet.frame source → FrameCarries packet.frame payload
    → (hearings ≡ [] → ⊥) → Gathers begun new (packets ++ packet ∷ []) (outcomes ++ heard hearings ∷ [])
gathers-told begun old new packets outcomes packet source payload [] took of place hears sent carries some = absurd (some refl)
gathers-told begun old new packets outcomes packet source payload (hearing ∷ hearings) took of place hears sent carries some =
    let listener = listener_at begun.by_file.items begun.place in
    let one = told_by source payload (heard_at begun packet.moment) in
    let same : listener_at old.by_file.items old.place ≡ listener =
    ap (λ of. listener_at of old.place) took.by_file ∙ ap (listener_at begun.by_file.items) took.place in
    record {
      by_file = of ∙ took.by_file;
      place = place ∙ took.place;
      told = took.told ++ one;
      tell = grind (arith, tell-more);
      messages = grind (arith, append_assoc);
      names = λ earlier held. subst (HoldsNames new.messages.names)
          (append_assoc earlier (hearings_in outcomes) (hearing ∷ hearings)
          ∙ ap (λ l. earlier ++ l) (sym (hearings-more outcomes (heard (hearing ∷ hearings)))))
          (hears.names (earlier ++ hearings_in outcomes) (took.names earlier held));
    }

-- a packet that told nothing was taken
pub gathers-nothing : (begun now : MessageCollector) (packets : List PacketAt) (outcomes : List Outcome) (packet : PacketAt)
    (outcome : Outcome) → Gathers begun now packets outcomes → Tells (listener_at begun.by_file.items begun.place) packet outcome []
    → hearings_of_outcome outcome ≡ [] → Gathers begun now (packets ++ packet ∷ []) (outcomes ++ outcome ∷ [])
gathers-nothing begun now packets outcomes packet outcome took tells none =
    grind (arith, hearings-more outcomes outcome, append-nil (hearings_in outcomes), append-nil took.told, tell-more)

pub gathers-untold : (begun now : MessageCollector) (packets : List PacketAt) (outcomes : List Outcome) (packet : PacketAt)
    (outcome none : Outcome) → Gathers begun now packets outcomes → outcome ≡ none
    → ((listener : ℕ) → Tells listener packet none []) → hearings_of_outcome none ≡ []
    → Gathers begun now (packets ++ packet ∷ []) (outcomes ++ outcome ∷ [])
gathers-untold begun now packets outcomes packet outcome none took is tells untold = grind (arith, nat_tests, gathers-nothing)

-- a collector that took nothing
pub gathers-none : (now : MessageCollector) → Gathers now now [] []
gathers-none now = grind (arith, append-nil)

-- the time that was noted last is forgotten
front : {X : Type 0} (xs : List X) (x : X) → take (length xs) (xs ++ x ∷ []) ≡ xs
front [] x = refl
front (y ∷ ys) x = ap (λ l. y ∷ l) (front ys x)

without-last : {X : Type 0} (xs : List X) (x : X) → take (length (xs ++ x ∷ []) - 1) (xs ++ x ∷ []) ≡ xs
without-last xs x = grind (arith, length-snoc xs x, front xs x)

pub forgets : (earlier old : MessageCollector) (messages : HeardSoFar) → NotesTime earlier old
    → messages.told ≡ take (length old.messages.told - 1) old.messages.told → messages.names ≡ old.messages.names
    → record { by_file = old.by_file; place = old.place; messages = messages } ≡ earlier
forgets earlier old messages notes told names = grind (arith, without-last)

-- one capture more was read
pub gathered-more : (of : List ℕ) (old now new : MessageCollector) (packets : List (List PacketAt)) (outcomes : List (List Outcome))
    (next : List PacketAt) (come : List Outcome) → Gathered of old packets outcomes → Gathers old now next come
    → new.by_file.items ≡ now.by_file.items → new.place ≡ min (suc now.place) (length now.by_file.items) → new.messages ≡ now.messages
    → Gathered of new (packets ++ next ∷ []) (outcomes ++ come ∷ [])
gathered-more of old now new packets outcomes next come gathered took same_of counted same_messages =
    grind (arith, at-min, min, min-suc, length-snoc, captures-more, all_hearings-more)

-- THE NAMES OF ROWS

-- one row more has the names of its sender
pub named-more : (hearings : List Hearing) (rows : List SenderRow) (senders : List NamedSender) (row : SenderRow)
    (names : List (List ℕ)) → AreNamed hearings rows senders → AreNames row.source hearings names
    → AreNamed hearings (rows ++ row ∷ []) (senders ++ record { row = row; names = names } ∷ [])
named-more hearings rows senders row names named are = record {
  are_rows = map-append (λ (sender : NamedSender). sender.row) senders (record { row = row; names = names } ∷ [])
      ∙ ap (λ l. l ++ row ∷ []) named.are_rows;
  names = All-append (λ (sender : NamedSender). AreNames sender.row.source hearings sender.names) senders
      (record { row = row; names = names } ∷ []) named.names
      (All-cons (λ (sender : NamedSender). AreNames sender.row.source hearings sender.names) (record { row = row; names = names }) []
      are (All-nil (λ (sender : NamedSender). AreNames sender.row.source hearings sender.names)));
}

pub named-next : (hearings : List Hearing) (rows : List SenderRow) (i : ℕ) (row : SenderRow) (lent : LentSender)
    (old new : List LentSender) → i < length rows → row ≡ get_or rows i row → new ≡ old ++ lent ∷ [] → lent.row ≡ row
    → AreNamed hearings (take i rows) (map sender_lent old) → AreNames row.source hearings lent.names.now
    → AreNamed hearings (take (i + 1) rows) (map sender_lent new)
named-next hearings rows i row lent old new within is pushed same named are =
    let more = named-more hearings (take i rows) (map sender_lent old) row lent.names.now named are in
    grind (arith, take_more, map-append sender_lent old (lent ∷ []))

pub named-all : (hearings : List Hearing) (rows : List SenderRow) (i : ℕ) (senders : List NamedSender) → length rows ≤ i
    → AreNamed hearings (take i rows) senders → AreNamed hearings rows senders
named-all hearings rows i senders past named = subst (λ (rs : List SenderRow). AreNamed hearings rs senders) (take_all i rows past) named

-- ---- the text

-- what is said of these messages and time spans, by whatever expressions of them
pub says-as : (names : List (List ℕ)) (form : Form) (rows other_rows : List HeardRow) (spans other_spans : List FileSpans)
    (hearings : List Hearing) (text : List ℕ) → other_rows ≡ rows → other_spans ≡ spans
    → SaysFacts names form other_rows other_spans hearings text → SaysFacts names form rows spans hearings text
says-as names form rows other_rows spans other_spans hearings text same_rows same_spans says = grind (arith, nat_tests)

-- the time spans of listeners, by whatever expressions of the number of listeners, of their files and of the spans of these
pub spans-as : (count other : ℕ) (of other_of : List ℕ) (files other_files : List (Option Span)) → other ≡ count → other_of ≡ of
    → other_files ≡ files → spans_of_listeners other other_of other_files ≡ spans_of_listeners count of files
spans-as count other of other_of files other_files same_count same_of same_files = grind (arith, nat_tests)

-- WHAT FUNCTIONS ARE PROVED BY

pub ruleset for_take = (gathers-told, gathers-untold, false≢true)

pub ruleset for_heard_by = (spans-as, length-map)

pub ruleset for_text_of = (says-as, IfOk-weaker)
