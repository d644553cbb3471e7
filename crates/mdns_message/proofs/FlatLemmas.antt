-- Hearings in flat buffers keep their meaning while bytes are added.
use Rattle.std.proofs.Common.{◌≡◌, ◌∙◌, ℕ, ◌+◌, List, [], ◌∷◌, ◌++◌, length, map, refl, sym, ap, arith, length-append, length-drop}
use Rattle.std.specs.List.{All}
use Rattle.std.proofs.lemmas.List.{drop_at, length_push, take_all, take-append-le, drop-append-le, map-append}
use Rattle.std.proofs.lemmas.List.Elements.{All-head, All-tail, All-push, All-weaker}
use Rattle.dns_name.specs.{Name.{Extends}, NameAt.{ReadsOnto}}
use Rattle.dns_name.proofs.ReadNameLemmas.{name_wire}
use Rattle.mdns_message.specs.declared.body.RecordData.TheVariants as body
use Rattle.mdns_message.specs.declared.{hearing.Hearing.{Hearing}, flat.ByteRange.{ByteRange}}
use Rattle.mdns_message.specs.Flat.{FlatBody, AddsFlat, BodyFits, Fits, IsNameIn, IsWithin, body_in, bytes_in, hearing_in}
use Rattle.mdns_message.specs.{declared.flat.FlatHearing.{FlatHearing}, FlatRecord.{HoldsName}}

-- a part stays what it is
part_kept : (bytes more : List ℕ) (s : ByteRange) → IsWithin bytes s → bytes_in (bytes ++ more) s ≡ bytes_in bytes s
part_kept bytes more s h = grind (arith, length-drop, drop-append-le, take-append-le)

pub bytes_kept : (before bytes : List ℕ) (s : ByteRange) → Extends before bytes → IsWithin before s → bytes_in bytes s ≡ bytes_in before s
bytes_kept before bytes s b h = ap (λ xs. bytes_in xs s) b.whole ∙ part_kept before b.more s h

within_kept : (before bytes : List ℕ) (s : ByteRange) → Extends before bytes → IsWithin before s → IsWithin bytes s
within_kept before bytes s b h = grind (arith, length-append)

pub name_kept : (before bytes : List ℕ) (s : ByteRange) → Extends before bytes → IsNameIn before s → IsNameIn bytes s
name_kept before bytes s b h = grind (arith, within_kept before bytes s b h.part, bytes_kept before bytes s b h.part)

body_kept : (before bytes : List ℕ) (flat : FlatBody) → Extends before bytes → BodyFits before flat
    → BodyFits bytes flat × (body_in bytes flat ≡ body_in before flat)
body_kept before bytes (body.A address) b h = (tt, refl)
body_kept before bytes (body.Aaaa address) b h = (tt, refl)
body_kept before bytes (body.Ptr target) b h = (name_kept before bytes target b h, ap body.Ptr (bytes_kept before bytes target b h.part))
body_kept before bytes (body.Txt strings) b h = (within_kept before bytes strings b h, ap body.Txt (bytes_kept before bytes strings b h))
body_kept before bytes (body.Srv priority weight port target) b h =
    (name_kept before bytes target b h, ap (body.Srv priority weight port) (bytes_kept before bytes target b h.part))

pub fits_kept : (before bytes : List ℕ) → Extends before bytes → (h : FlatHearing) → Fits before h → Fits bytes h
fits_kept before bytes b h fits = grind (arith, name_kept before bytes h.owner b fits.owner, body_kept before bytes h.body b fits.body)

hearing_kept : (before bytes : List ℕ) → Extends before bytes → (h : FlatHearing) → Fits before h → hearing_in bytes h ≡ hearing_in before h
hearing_kept before bytes b h fits = grind (arith, bytes_kept, body_kept)

-- all of them mean what they meant
pub all_kept : (before bytes : List ℕ) → Extends before bytes → (hs : List FlatHearing) → All (Fits before) hs
    → map (hearing_in bytes) hs ≡ map (hearing_in before) hs
all_kept before bytes b [] fits = refl
all_kept before bytes b (h ∷ hs) fits =
    grind (arith, hearing_kept, All-head, All-tail, all_kept before bytes b hs (All-tail (Fits before) h hs fits))

-- they fit, also where bytes were added
pub all_fit : (before bytes : List ℕ) (hs : List FlatHearing) → Extends before bytes → All (Fits before) hs → All (Fits bytes) hs
all_fit before bytes hs b fits = All-weaker (Fits before) (Fits bytes) (fits_kept before bytes b) hs fits

-- with one more they fit
pub one_more_fits : (before bytes : List ℕ) (hs longer : List FlatHearing) (this : Hearing) → Extends before bytes
    → All (Fits before) hs → AddsFlat bytes hs longer this → All (Fits bytes) longer
one_more_fits before bytes hs longer this b fit adds =
    grind (arith, All-push (Fits bytes) hs adds.flat (all_fit before bytes hs b fit) adds.fits, all_fit before bytes hs b fit)

-- and they mean what they meant, and that one
pub one_more_heard : (before bytes : List ℕ) (hs longer : List FlatHearing) (this : Hearing) → Extends before bytes
    → All (Fits before) hs → AddsFlat bytes hs longer this
    → map (hearing_in bytes) longer ≡ map (hearing_in before) hs ++ this ∷ []
one_more_heard before bytes hs longer this b fit adds = grind (arith, map-append, all_kept)

-- a hearing is added whose owner and data were appended
pub hearing_added : (mid bytes : List ℕ) (old new : List FlatHearing) (h : FlatHearing) (this : Hearing)
    → Extends mid bytes → IsNameIn mid h.owner → BodyFits bytes h.body
    → this ≡ record {
      moment = h.moment;
      heard = record { owner = bytes_in mid h.owner; body = body_in bytes h.body };
      ttl = h.ttl;
      flush = h.flush;
    }
    → new ≡ old ++ h ∷ [] → AddsFlat bytes old new this
hearing_added mid bytes old new h this begins owner body means added =
    let kept : bytes_in bytes h.owner ≡ bytes_in mid h.owner = bytes_kept mid bytes h.owner begins owner.part in
    record {
      flat = h;
      fits = record { owner = name_kept mid bytes h.owner begins owner; body = body };
      same = (λ i. record {
        moment = h.moment;
        heard = record { owner = kept i; body = body_in bytes h.body };
        ttl = h.ttl;
        flush = h.flush;
      }) ∙ sym means;
      added = added;
    }

-- then there is one more
pub one_longer : (bytes : List ℕ) (old new : List FlatHearing) (this : Hearing) → AddsFlat bytes old new this → length new ≡ length old + 1
one_longer bytes old new this adds = ap length adds.added ∙ length_push old adds.flat

-- a name that was appended is where the bytes were longer
pub name_held : (m : List ℕ) (at after : ℕ) (before bytes : List ℕ) (s : ByteRange) → ReadsOnto m at before bytes after
    → s.begin ≡ length before → s.end ≡ length bytes → HoldsName bytes m at s after
name_held m at after before bytes s r begins ends = grind (arith, length-append, drop_at, take_all, name_wire)
