-- Faults after a header have an offset, so none of them is one of the header's; and how many hearings a
-- message can have.
use Rattle.std.proofs.Common.{◌≡◌, ℕ, zero, suc, ◌+◌, ◌*◌, ◌<◌, ◌≤◌, List, Option, None, Some, length, get_or}
use Rattle.std.proofs.{Common.{sym, ap, subst, inl, inr, arith, length-append, get_or-drop}, lemmas.List.{length-map}}
use Rattle.std.proofs.lemmas.Result.{IfErr-at_err}
use Rattle.mdns_capture.specs.{declared.moment.Moment.{Moment}, Frame.{word_at}, Savefile.{number_at}}
use Rattle.mdns_message.specs.declared.{hearing.Hearing.{Hearing}, fault.MessageFault.{MessageFault}}
use Rattle.mdns_message.specs.declared.fault.MessageFault.TheVariants.{Header, Query, Ignored, Cut, Label, Pointer, LongName, Memory}
use Rattle.mdns_message.specs.declared.record_at.{Section.{Section}, Section.TheVariants.{Answer, Authority, Additional}}
use Rattle.mdns_message.specs.declared.{record_type.RecordType.{RecordType}, record_at.RecordHeader.{RecordHeader}}
use Rattle.mdns_message.specs.{Fault.{HasNameFault, fault_of_name}, Message.{Run, HasHeader, MessageReads}}
use Rattle.mdns_message.specs.RecordAt.{DataFails, DataNameFails, HeardRecord, IsCut, LastNameFails, MemoryOr, NamedFails, QuestionFails}
use Rattle.mdns_message.specs.RecordAt.{QuestionStands, RecordFails, RecordRestFails, RecordStands, RecordTells, RecordTellingFails}
use Rattle.mdns_message.specs.{RecordAt.{header_of, wanted}, FirstMessageFault.{HasFirstFault, SectionsFail}}
use Rattle.mdns_message.specs.declared.fault.MessageFault.TheVariants as fault
use Rattle.dns_name.specs.{declared.fault.NameReadFault.{NameReadFault}, FirstFault.{NameFailsUnder}}
use Rattle.dns_name.specs.FirstFault.NameFailsUnder.{no_octet, label_cut, label_long, label_form, pointer_cut, pointer_target, after_label}
use Rattle.dns_name.specs.FirstFault.NameFailsUnder.{after_pointer}
use Rattle.dns_name.specs.declared.fault.NameReadFault.TheVariants as name
use Rattle.mdns_message.specs.declared.record_type.RecordType.TheVariants as kind

-- a fault with an offset
abbrev IsPlaced : MessageFault → Type 0
IsPlaced Header = ⊥
IsPlaced Query = ⊥
IsPlaced Ignored = ⊥
IsPlaced Memory = ⊥
IsPlaced _ = Unit {0}

is_placed : (f g : MessageFault) → f ≡ g → IsPlaced g → IsPlaced f
is_placed f g e p = subst IsPlaced (sym e) p

is_named : (f g : NameReadFault) → f ≡ g → IsPlaced (fault_of_name g) → IsPlaced (fault_of_name f)
is_named f g e p = is_placed (fault_of_name f) (fault_of_name g) (ap fault_of_name e) p

named_fault_placed : {m : List ℕ} {p s u : ℕ} {f : NameReadFault} → NameFailsUnder m p s u f → IsPlaced (fault_of_name f)
named_fault_placed {p = p} {f = f} (no_octet a e) = is_named f (name.Cut p) e tt
named_fault_placed {p = p} {f = f} (label_cut k a b c d l e) = is_named f (name.Cut p) e tt
named_fault_placed {p = p} {f = f} (label_long k a b e) = is_named f (name.LongName p) e tt
named_fault_placed {p = p} {f = f} (label_form a b c e) = is_named f (name.Label p) e tt
named_fault_placed {p = p} {f = f} (pointer_cut a b c e) = is_named f (name.Cut p) e tt
named_fault_placed {p = p} {f = f} (pointer_target t a b e) = is_named f (name.Pointer p) e tt
named_fault_placed (after_label k a b h) = named_fault_placed h
named_fault_placed (after_pointer t a b h) = named_fault_placed h

name_placed : (m : List ℕ) (p : ℕ) (f : MessageFault) → HasNameFault m p f → IsPlaced f
name_placed m p f (named, fails, e) = is_placed f (fault_of_name named) e (named_fault_placed fails)

cut_placed : (m : List ℕ) (size p : ℕ) (f : MessageFault) → IsCut m size p f → IsPlaced f
cut_placed m size p f c = is_placed f (Cut p) c.1 tt

named_placed : (m : List ℕ) (p : ℕ) (RestFails : ℕ → MessageFault → Type 0) (f : MessageFault)
    → ((q : ℕ) → RestFails q f → IsPlaced f) → NamedFails m p RestFails f → IsPlaced f
named_placed m p RestFails f rest (inl h) = name_placed m p f h
named_placed m p RestFails f rest (inr named) = rest named.after named.rest

last_name_placed : (m : List ℕ) (x : RecordHeader) (p : ℕ) (f : MessageFault) → LastNameFails m x p f → IsPlaced f
last_name_placed m x p f (inl h) = name_placed m p f h
last_name_placed m x p f (inr (n, q, reads, other, e)) = is_placed f (fault.Body x.offset) e tt

data_name_placed : (m : List ℕ) (x : RecordHeader) (skipped : ℕ) (f : MessageFault) → DataNameFails m x skipped f → IsPlaced f
data_name_placed m x skipped f (inl d) = is_placed f (fault.Body x.offset) d.1 tt
data_name_placed m x skipped f (inr d) = last_name_placed m x (x.offset + skipped) f d.1

data_placed : (m : List ℕ) (x : RecordHeader) (k : RecordType) (f : MessageFault) → DataFails m x k f → IsPlaced f
data_placed m x kind.A f d = is_placed f (fault.Body x.offset) d.1 tt
data_placed m x kind.Aaaa f d = is_placed f (fault.Body x.offset) d.1 tt
data_placed m x kind.Txt f d = absurd d
data_placed m x kind.Ptr f d = data_name_placed m x 0 f d
data_placed m x kind.Srv f d = data_name_placed m x 6 f d

telling_placed : (m : List ℕ) (x : RecordHeader) (o : Option RecordType) (f : MessageFault) → RecordTellingFails m x o f → IsPlaced f
telling_placed m x None f d = absurd d
telling_placed m x (Some k) f d = data_placed m x k f d

record_rest_placed : (m : List ℕ) (section : Section) (p : ℕ) (f : MessageFault) → RecordRestFails m section p f → IsPlaced f
record_rest_placed m section p f h = grind (arith, cut_placed, telling_placed, header_of)

question_placed : (m : List ℕ) (p : ℕ) (f : MessageFault) → QuestionFails m p f → IsPlaced f
question_placed m p f q = named_placed m p (IsCut m 4) f (λ r. cut_placed m 4 r f) q

record_placed : (m : List ℕ) (section : Section) (p : ℕ) (f : MessageFault) → RecordFails m section p f → IsPlaced f
record_placed m section p f q = named_placed m p (RecordRestFails m section) f (λ r. record_rest_placed m section r f) q

sections_placed : (m : List ℕ) (f : MessageFault) → SectionsFail m 12 f → IsPlaced f
sections_placed m f (inl (inl (inl r))) = question_placed m r.offset f r.fails
sections_placed m f (inl (inl (inr (front, p, first, r)))) = record_placed m Answer r.offset f r.fails
sections_placed m f (inl (inr (front, p, first, r))) = record_placed m Authority r.offset f r.fails
sections_placed m f (inr (front, p, first, r)) = record_placed m Additional r.offset f r.fails

placed_first : (m : List ℕ) → HasHeader m → (f : MessageFault) → SectionsFail m 12 f → HasFirstFault m f
placed_first m h k s = grind (arith, sections_placed)

-- the first fault of a message, by what its sections answer
pub first_fault : (m : List ℕ) → HasHeader m → (f : MessageFault) → MemoryOr (SectionsFail m 12) f → HasFirstFault m f
first_fault m h f (inl e) = subst (HasFirstFault m) (sym e) h
first_fault m h f (inr s) = placed_first m h f s

-- the faults of a header are none of its sections
abbrev IsOfHeader : MessageFault → Type 0
IsOfHeader Header = Unit {0}
IsOfHeader Query = Unit {0}
IsOfHeader Ignored = Unit {0}
IsOfHeader _ = ⊥

not_placed : (f : MessageFault) → IsOfHeader f → IsPlaced f → ⊥
not_placed f h p = grind arith

pub never_of_header : (m : List ℕ) (f : MessageFault) → IsOfHeader f → MemoryOr (SectionsFail m 12) f → ⊥
never_of_header m f h (inl e) = subst IsOfHeader e h
never_of_header m f h (inr s) = not_placed f h (sections_placed m f s)

-- a run has at most k values for each item
run_length : {A : Type 0} (Item : ℕ → List A → ℕ → Type 0) (k : ℕ)
    → ((p : ℕ) (told : List A) (q : ℕ) → Item p told q → length told ≤ k)
    → (count start : ℕ) (told : List A) (next : ℕ) → Run Item count start told next → length told ≤ k * count
run_length Item k each zero start told next run = omega (arith, ap length run.0)
run_length {A} Item k each (suc count) start told next (front, offset, last, run, item, e) =
    omega (arith, ap length e, length-append front last, run_length Item k each count start front offset run, each offset last next item)

word_bound : (m : List ℕ) (p : ℕ) → ((i : ℕ) → get_or m i 0 < 256) → word_at p m ≤ 65535
unfolding number_at
word_bound m p fits = grind (arith, get_or-drop)

question_length : (m : List ℕ) (p : ℕ) (told : List HeardRecord) (q : ℕ) → QuestionStands m p told q → length told ≤ 0
question_length m p told q stands = omega (arith, ap length stands.rest.nothing)

tells_length : (m owner : List ℕ) (x : RecordHeader) (o : Option RecordType) (told : List HeardRecord)
    → RecordTells m owner x o told → length told ≤ 1
tells_length m owner x None told e = omega (arith, ap length e)
tells_length m owner x (Some k) told (b, reads, e) = omega (arith, ap length e)

record_length : (m : List ℕ) (section : Section) (p : ℕ) (told : List HeardRecord) (q : ℕ)
    → RecordStands m section p told q → length told ≤ 1
record_length m section p told q stands =
    tells_length m stands.name (header_of m stands.after) (wanted section (header_of m stands.after)) told stands.rest.tells

authority_length : (m : List ℕ) (p : ℕ) (told : List HeardRecord) (q : ℕ) → RecordStands m Authority p told q → length told ≤ 0
authority_length m p told q stands = omega (arith, ap length stands.rest.tells)

-- a message has at most so many hearings as its answers and additional records
pub few_hearings : (moment : Moment) (m : List ℕ) (hs : List Hearing) → ((i : ℕ) → get_or m i 0 < 256)
    → MessageReads moment m hs → length hs ≤ 131070
few_hearings moment m hs fits reads = grind (
  arith,
  length-map,
  length-append,
  run_length (QuestionStands m) 0 (question_length m) (word_at 4 m) 12,
  run_length (RecordStands m Answer) 1 (record_length m Answer) (word_at 6 m),
  run_length (RecordStands m Authority) 0 (authority_length m) (word_at 8 m),
  run_length (RecordStands m Additional) 1 (record_length m Additional) (word_at 10 m),
  word_bound m 6 fits,
  word_bound m 10 fits,
)

pub ruleset for_read_message = (never_of_header, IfErr-at_err)
