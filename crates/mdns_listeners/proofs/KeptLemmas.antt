-- Messages that are kept, and what was told.
use Rattle.std.proofs.{lemmas.Bool.Decides.{nat_tests}, Math.Seq.{drop-append_seam}, lemmas.Bool.{cases_lt}}
use Rattle.std.proofs.lemmas.List.{get_or_append_left, get_or-map, get_or_push, length-map, length_push, map_push, take-map}
use Rattle.std.proofs.lemmas.List.Elements.{All-map, All-push, All-take, Contains-get_or}
use Rattle.std.proofs.lemmas.List.Sorted.{All-permutation as all_permuted, Contains-permutation, length_permutation}
use Rattle.std.proofs.Common.{◌≡◌, ℕ, ◌<◌, ◌-◌, ◌==◌, if◌then◌else◌, List, [], ◌∷◌, ◌++◌, length, get_or, map, take, Result, Ok}
use Rattle.std.proofs.Common.{Err, OnOk, refl, sym, ap, ◌∙◌, subst, arith, length-append}
use Rattle.std.specs.{List.{All}, List.Sorted.{IsPermutation}}
use Rattle.mdns_capture.specs.declared.moment.Moment.{Moment}
use Rattle.mdns_message.specs.{declared.hearing.Hearing.{Hearing}, Message.{MessageReads, hearing_of}, RecordAt.{HeardRecord}}
use Rattle.mdns_message.proofs.MessageLawLemmas.{one_hearing_list}
use Rattle.mdns_cache.specs.Repeats.{ReadsAs}
use Rattle.mdns_cache.proofs.{MemoryLemmas.{reads_as}, RepeatLemmas.{reads-at}}
use Rattle.mdns_listeners.specs.declared.kept_message.MessageTime.{MessageTime}
use Rattle.mdns_listeners.specs.{declared.sender_names.SenderAddressName.{SenderAddressName}, HeardMessage.{HasWholeAddress}}
use Rattle.mdns_listeners.specs.KeptMessage.{AreKept, ArePlaced, IsRead, KeptMessage, kept_messages, next_kept, payload_in, told_by}
use Rattle.mdns_listeners.specs.SenderNames.{SufficeFor, named_in, told_in}
use Rattle.mdns_listeners.proofs.{HeldNameLemmas.{suffice-onward}, RowLemmas.{map-agree}}

-- ---- whole addresses

pub whole_v4 : {E : Type 0} (r : Result (Unit {0}) E) (octets payload message : List ℕ) → OnOk r (message ≡ 4 ∷ octets ++ payload)
    → length octets ≡ 4 → OnOk r (HasWholeAddress message)
whole_v4 (Ok x) octets payload message is size = grind (arith, length-append)
whole_v4 (Err e) octets payload message is size = tt

pub whole_v6 : {E : Type 0} (r : Result (Unit {0}) E) (octets payload message : List ℕ) → OnOk r (message ≡ 6 ∷ octets ++ payload)
    → length octets ≡ 16 → OnOk r (HasWholeAddress message)
whole_v6 (Ok x) octets payload message is size = grind (arith, length-append)
whole_v6 (Err e) octets payload message is size = tt

-- ---- payloads

pub payload_after : {E : Type 0} (r : Result (Unit {0}) E) (version : ℕ) (octets payload message : List ℕ)
    → OnOk r (message ≡ version ∷ octets ++ payload) → length octets ≡ (if version == 4 then 4 else 16)
    → OnOk r (payload_in message ≡ payload)
payload_after (Ok x) version octets payload message is size = grind (arith, drop-append_seam)
payload_after (Err e) version octets payload message is size = tt

-- ---- messages that were read

any-moment : (t u : Moment) (told : List HeardRecord) → told_in (map (hearing_of t) told) ≡ told_in (map (hearing_of u) told)
any-moment t u [] = refl
any-moment t u (r ∷ rs) = ap (λ more. named_in (hearing_of t r) ++ more) (any-moment t u rs)

-- a message tells the same names at each moment
told-alike : (t u : Moment) (message : List ℕ) (hs gs : List Hearing) → MessageReads t message hs → MessageReads u message gs
    → told_in hs ≡ told_in gs
told-alike t u message hs gs reads read =
    ap told_in (one_hearing_list t message hs (map (hearing_of t) read.told) reads (reads-at u message gs read t))
    ∙ any-moment t u read.told ∙ ap told_in (sym read.heard)

is-read : (names : List SenderAddressName) (one : KeptMessage) (payload : List ℕ) (t : Moment) (hs : List Hearing)
    → ((i : ℕ) → get_or payload i 0 < 256) → payload_in one.message ≡ payload → MessageReads t payload hs → (hs ≡ [] → ⊥)
    → length hs ≡ one.hearings → SufficeFor names (told_in hs) → IsRead names one
is-read names one payload t [] fits is reads some counted suffice = absurd (some refl)
is-read names one payload t (h ∷ hs) fits is reads some counted suffice = record {
  some = omega (arith, counted);
  reads = λ u. subst (λ m. ReadsAs u m one.hearings) (sym is) (reads_as payload one.hearings t (h ∷ hs) fits reads counted u);
  named = λ u gs read. subst (SufficeFor names)
      (told-alike t u payload (h ∷ hs) gs reads (subst (λ m. MessageReads u m gs) is read)) suffice;
}

module _ (names : List SenderAddressName) (one : KeptMessage) (payload : List ℕ) (read : IsRead names one) (is : payload_in one.message ≡ payload)
    (t : Moment) where
  pub known-reads : ReadsAs t payload one.hearings
  known-reads = subst (λ m. ReadsAs t m one.hearings) is (read.reads t)

  pub known-some : (hs : List Hearing) → MessageReads t payload hs → hs ≡ [] → ⊥
  known-some hs reads none = grind (arith, one_hearing_list t payload known-reads.hearings hs known-reads.reads reads)

  pub known-named : (hs : List Hearing) → MessageReads t payload hs → SufficeFor names (told_in hs)
  known-named hs reads = read.named t hs (subst (λ m. MessageReads t m hs) (sym is) reads)

-- ---- what is kept and told after a message more

-- one time less
pub kept_less : (kept : List KeptMessage) (times less : List MessageTime) (names : List SenderAddressName) (n : ℕ)
    → AreKept kept times names
    → less ≡ take n times → AreKept kept less names
kept_less kept times less names n are is = grind (arith, All-take (λ (noted : MessageTime). noted.place < length kept) n times are.within)

pub told_less : (messages : List (List ℕ)) (times less : List MessageTime) → less ≡ take (length times - 1) times
    → told_by messages less ≡ take (length (told_by messages times) - 1) (told_by messages times)
told_less messages times less is = grind (arith, take-map, length-map)

pub kept-names : (kept : List KeptMessage) (times : List MessageTime) (old new : List SenderAddressName) → AreKept kept times old
    → SufficeFor new old
    → AreKept kept times new
kept-names kept times old new are keeps = record {
  placed = are.placed;
  addressed = are.addressed;
  read = λ k d l. let read = are.read k d l in record {
    some = read.some;
    reads = read.reads;
    named = λ t hs reads. suffice-onward new old (told_in hs) keeps (read.named t hs reads);
  };
  within = are.within;
}

placed-push : (kept : List KeptMessage) (one : KeptMessage) → one.place ≡ length kept
    → ((k : ℕ) (d : KeptMessage) → k < length kept → (get_or kept k d).place ≡ k)
    → (k : ℕ) (d : KeptMessage) → k < length (kept ++ one ∷ []) → (get_or (kept ++ one ∷ []) k d).place ≡ k
placed-push kept one is placed k d l = grind (arith, nat_tests, cases_lt, get_or_append_left, get_or_push, length_push)

kept-push : (kept : List KeptMessage) (times : List MessageTime) (names : List SenderAddressName) (one : KeptMessage)
    → AreKept kept times names
    → one.place ≡ length kept → HasWholeAddress one.message → IsRead names one → AreKept (kept ++ one ∷ []) times names
kept-push kept times names one are last whole read = search (arith, placed-push, All-push, length_push)

-- a message that was read is kept, and names suffice for its hearings
pub kept_more : (kept new : List KeptMessage) (times : List MessageTime) (old names : List SenderAddressName)
    (payload message bytes : List ℕ) (t : Moment)
    (hs : List Hearing) (count : ℕ) → AreKept kept times old → SufficeFor names old → SufficeFor names (told_in hs)
    → ((i : ℕ) → get_or payload i 0 < 256) → message ≡ bytes → HasWholeAddress bytes → payload_in bytes ≡ payload
    → MessageReads t payload hs → (hs ≡ [] → ⊥) → count ≡ length hs → new ≡ kept ++ next_kept kept message count ∷ []
    → AreKept new times names
kept_more kept new times old names payload message bytes t hs count are keeps suffice fits is whole carried reads some counted more =
    let one = next_kept kept message count in
    subst (λ (ks : List KeptMessage). AreKept ks times names) (sym more)
    (kept-push kept times names one (kept-names kept times old names are keeps) refl (subst HasWholeAddress (sym is) whole)
    (is-read names one payload t hs fits (ap payload_in is ∙ carried) reads some (sym counted) suffice))

pub kept-noted : (kept : List KeptMessage) (times : List MessageTime) (names : List SenderAddressName) (noted : MessageTime)
    → AreKept kept times names
    → noted.place < length kept → AreKept kept (times ++ noted ∷ []) names
kept-noted kept times names noted are within = grind (arith, All-push (λ n. n.place < length kept) times noted are.within within)

-- what was told before stays so
pub told-push : (kept : List KeptMessage) (times : List MessageTime) (names : List SenderAddressName) (one : KeptMessage)
    → AreKept kept times names
    → told_by (kept_messages (kept ++ one ∷ [])) times ≡ told_by (kept_messages kept) times
told-push kept times names one are =
    map-agree _ _ times (λ i d l. λ j. record {
      message = before (get_or times i d).place (are.within i d l) j;
      at = (get_or times i d).at;
    })
  where
    before : (p : ℕ) → p < length kept → get_or (kept_messages (kept ++ one ∷ [])) p [] ≡ get_or (kept_messages kept) p []
    before p l = ap (λ ms. get_or ms p []) (map_push (λ (o : KeptMessage). o.message) kept one)
        ∙ get_or_append_left (kept_messages kept) (one.message ∷ []) [] p (omega (arith, l, length-map kept (λ o. o.message)))

pub told-noted : (messages : List (List ℕ)) (times : List MessageTime) (noted : MessageTime) (message : List ℕ)
    → get_or messages noted.place [] ≡ message
    → told_by messages (times ++ noted ∷ []) ≡ told_by messages times ++ record { message = message; at = noted.at } ∷ []
told-noted messages times noted message is = grind (arith, map_push)

pub message-push : (kept : List KeptMessage) (one : KeptMessage)
    → get_or (kept_messages (kept ++ one ∷ [])) (length kept) [] ≡ one.message
message-push kept one = grind (arith, nat_tests, get_or_push, length-map, map_push)

-- what was told has whole addresses
pub told-whole : (kept : List KeptMessage) (times : List MessageTime) (names : List SenderAddressName) → AreKept kept times names
    → All (λ told. HasWholeAddress told.message) (told_by (kept_messages kept) times)
told-whole kept times names is =
    All-map (λ told. HasWholeAddress told.message) _ times (λ i d l.
    let place = (get_or times i d).place in
    let one : KeptMessage = record { message = []; place = 0; hearings = 0 } in
    subst HasWholeAddress (sym (get_or-map (λ (o : KeptMessage). o.message) kept place one [] (is.within i d l)))
    (is.addressed place one (is.within i d l)))

-- ---- messages in another order

pub placed-permuted : (kept others : List KeptMessage) (times : List MessageTime) (names : List SenderAddressName)
    → AreKept kept times names
    → IsPermutation kept others → ArePlaced (kept_messages kept) others
placed-permuted kept others times names is moved =
    let long : length (kept_messages kept) ≡ length kept = length-map kept (λ o. o.message) in
    let none : KeptMessage = record { message = []; place = 0; hearings = 0 } in
    record {
      long = length_permutation kept others moved ∙ sym long;
      within = all_permuted (λ o. o.place < length (kept_messages kept)) kept others moved
          (λ k d l. omega (arith, is.placed k d l, l, long));
      same = all_permuted (λ o. get_or (kept_messages kept) o.place [] ≡ o.message) kept others moved
          (λ k d l. ap (λ p. get_or (kept_messages kept) p []) (is.placed k d l)
          ∙ get_or-map (λ (o : KeptMessage). o.message) kept k d [] l);
      each = λ place l.
          let within : place < length kept = omega (arith, l, long) in (
            get_or kept place none,
            Contains-permutation kept others (get_or kept place none) moved (Contains-get_or kept place none within),
            is.placed place none within,
          );
    }
