-- Questions, records and whole messages read or fail, never both, each with one outcome.
use Rattle.std.proofs.Common.{◌≡◌, ◌≢◌, ◌⊎◌, ◌∙◌, ℕ, ◌+◌, List, [], ◌∷◌, Option, None, Some, length}
use Rattle.std.proofs.{Common.{map, refl, sym, ap, subst, inl, inr, arith}, lemmas.Bool.{cases_lt}}
use Rattle.mdns_message.specs.{Resource.{Body}, declared.fault.MessageFault.{MessageFault}, declared.record_at.Section.{Section}}
use Rattle.mdns_message.specs.declared.{record_at.Section.TheVariants.{Answer, Authority, Additional}, record_type.RecordType.{RecordType}}
use Rattle.mdns_message.specs.{declared.record_at.RecordHeader.{RecordHeader}, RecordAt.{DataFails, DataNameFails, DataNameReads}}
use Rattle.mdns_message.specs.RecordAt.{DataReads, HeaderFails, HeaderStands, HeardRecord, IsCut, LastNameFails, Named, NamedFails}
use Rattle.mdns_message.specs.RecordAt.{QuestionFails, QuestionRest, QuestionStands, RecordFails, RecordRest, RecordRestFails, RecordStands}
use Rattle.mdns_message.specs.RecordAt.{RecordTells, RecordTellingFails, data_in, header_of, heard_record, wanted}
use Rattle.mdns_message.specs.Message.{HasHeader, MessageReads, RecordSection, Sections, count_offset, hearing_of}
use Rattle.mdns_message.specs.{FirstMessageFault.{MessageFails, RecordSectionFails, SectionsFail}, declared.hearing.Hearing.{Hearing}}
use Rattle.mdns_message.specs.declared.body.RecordData.TheVariants as body
use Rattle.mdns_message.specs.declared.fault.MessageFault.TheVariants as fault
use Rattle.mdns_message.specs.declared.record_type.RecordType.TheVariants as kind
use Rattle.dns_name.specs.NameAt.{NameReads}
use Rattle.mdns_capture.specs.{Frame.{word_at}, declared.moment.Moment.{Moment}}
use Rattle.dns_name.proofs.NameLemmas.{name_unique}
use Rattle.mdns_message.proofs.FaultLemmas.{name_fault_not_both, name_or_fault, one_name_fault}
use Rattle.mdns_message.proofs.RunOutcomeLemmas.{IsDecided, pair_decided, run_decided}

same_or_not : (a b : ℕ) → (a ≡ b) ⊎ (a ≢ b)
same_or_not a b = grind (arith, cases_lt)

-- where the part after a name is decided, the name and that part are decided
module _ {A : Type 0} (m : List ℕ) (Rest : List ℕ → ℕ → List A → ℕ → Type 0) (RestFails : ℕ → MessageFault → Type 0)
    (law : (n : List ℕ) → IsDecided (Rest n) RestFails) where
  one_named : (p : ℕ) (xs ys : List A) (q r : ℕ) → Named m p (λ n b. Rest n b xs q) → Named m p (λ n b. Rest n b ys r) → (xs ≡ ys) × (q ≡ r)
  one_named p xs ys q r a b = grind (arith, name_unique m p a.name b.name a.after b.after a.reads b.reads)

  named_not_both : (p : ℕ) (xs : List A) (q : ℕ) (f : MessageFault) → Named m p (λ n b. Rest n b xs q) → NamedFails m p RestFails f → ⊥
  named_not_both p xs q f a (inl fails) = name_fault_not_both m p a.name a.after f a.reads fails
  named_not_both p xs q f a (inr b) = grind (arith, name_unique m p b.name a.name b.after a.after b.reads a.reads)

  named_one_fault : (p : ℕ) (f g : MessageFault) → NamedFails m p RestFails f → NamedFails m p RestFails g → f ≡ g
  named_one_fault p f g (inl a) (inl b) = one_name_fault m p f g a b
  named_one_fault p f g (inl a) (inr b) = absurd (name_fault_not_both m p b.name b.after f b.reads a)
  named_one_fault p f g (inr a) (inl b) = absurd (name_fault_not_both m p a.name a.after g a.reads b)
  named_one_fault p f g (inr a) (inr b) =
      let e = name_unique m p b.name a.name b.after a.after b.reads a.reads in
      (law a.name).one_fault a.after f g a.rest (subst (λ s. RestFails s g) e.1 b.rest)

  named_outcome : (p : ℕ) → ((xs : List A) × (q : ℕ) × Named m p (λ n b. Rest n b xs q)) ⊎ ((f : MessageFault) × NamedFails m p RestFails f)
  named_outcome p =
      elim (name_or_fault m p) [
        | inr fails ↦ inr (fails.0, inl fails.1)
        | inl name ↦
            elim ((law name.0).outcome name.1) [
              | inr fails ↦ inr (fails.0, inr (record { name = name.0; after = name.1; reads = name.2; rest = fails.1 }))
              | inl rest ↦ inl (rest.0, rest.1, record { name = name.0; after = name.1; reads = name.2; rest = rest.2 })
            ]
      ]

  named_decided : IsDecided (λ p xs q. Named m p (λ n b. Rest n b xs q)) (λ p f. NamedFails m p RestFails f)
  named_decided = record { one = one_named; not_both = named_not_both; one_fault = named_one_fault; outcome = named_outcome }

-- questions
question_rest_outcome : (m : List ℕ) (p : ℕ)
    → ((xs : List HeardRecord) × (q : ℕ) × QuestionRest m p xs q) ⊎ ((f : MessageFault) × IsCut m 4 p f)
question_rest_outcome m p = grind (arith, cases_lt (length m) (p + 4))

question_rest_not_both : (m : List ℕ) (p : ℕ) (xs : List HeardRecord) (q : ℕ) (f : MessageFault) → QuestionRest m p xs q → IsCut m 4 p f → ⊥
question_rest_not_both m p xs q f a c = absurd (omega (arith, a.whole, c.0))

question_decided : (m : List ℕ) → IsDecided (QuestionStands m) (QuestionFails m)
question_decided m =
    named_decided m (λ _. QuestionRest m) (IsCut m 4)
    (λ _. record {
      one = λ p xs ys q r a b. (a.nothing ∙ sym b.nothing, a.on ∙ sym b.on);
      not_both = question_rest_not_both m;
      one_fault = λ p f g a b. a.1 ∙ sym b.1;
      outcome = question_rest_outcome m;
    })

-- the name that ends a record's data
last_not_both : (m : List ℕ) (x : RecordHeader) (p : ℕ) (n : List ℕ) (f : MessageFault)
    → NameReads m p n (x.offset + x.len) → LastNameFails m x p f → ⊥
last_not_both m x p n f reads (inl fails) = name_fault_not_both m p n (x.offset + x.len) f reads fails
last_not_both m x p n f reads (inr (o, q, other, ends, e)) =
    ends (name_unique m p o n q (x.offset + x.len) other reads).1

last_one_fault : (m : List ℕ) (x : RecordHeader) (p : ℕ) (f g : MessageFault) → LastNameFails m x p f → LastNameFails m x p g → f ≡ g
last_one_fault m x p f g (inl a) (inl b) = one_name_fault m p f g a b
last_one_fault m x p f g (inl a) (inr (n, q, reads, ends, e)) = absurd (name_fault_not_both m p n q f reads a)
last_one_fault m x p f g (inr (n, q, reads, ends, e)) (inl b) = absurd (name_fault_not_both m p n q g reads b)
last_one_fault m x p f g (inr (n, q, reads, ends, e)) (inr (o, r, reads2, ends2, i)) = e ∙ sym i

last_outcome : (m : List ℕ) (x : RecordHeader) (p : ℕ)
    → ((n : List ℕ) × NameReads m p n (x.offset + x.len)) ⊎ ((f : MessageFault) × LastNameFails m x p f)
last_outcome m x p =
    elim (name_or_fault m p) [
      | inr fails ↦ inr (fails.0, inl fails.1)
      | inl name ↦
          elim (same_or_not name.1 (x.offset + x.len)) [
            | inl e ↦ inl (name.0, subst (λ q. NameReads m p name.0 q) e name.2)
            | inr ends ↦ inr (fault.Body x.offset, inr (name.0, name.1, name.2, ends, refl))
          ]
    ]

-- the name after the first bytes of a record's data
data_name_not_both : (m : List ℕ) (x : RecordHeader) (skipped : ℕ) (n : List ℕ) (f : MessageFault)
    → DataNameReads m x skipped n → DataNameFails m x skipped f → ⊥
data_name_not_both m x skipped n f (some, reads) (inl d) = absurd (omega (arith, some, d.0))
data_name_not_both m x skipped n f (some, reads) (inr d) = last_not_both m x (x.offset + skipped) n f reads d.1

data_name_one_fault : (m : List ℕ) (x : RecordHeader) (skipped : ℕ) (f g : MessageFault) → DataNameFails m x skipped f
    → DataNameFails m x skipped g → f ≡ g
data_name_one_fault m x skipped f g (inl a) (inl b) = a.1 ∙ sym b.1
data_name_one_fault m x skipped f g (inl a) (inr b) = absurd (omega (arith, a.0, b.0))
data_name_one_fault m x skipped f g (inr a) (inl b) = absurd (omega (arith, a.0, b.0))
data_name_one_fault m x skipped f g (inr a) (inr b) = last_one_fault m x (x.offset + skipped) f g a.1 b.1

data_name_outcome : (m : List ℕ) (x : RecordHeader) (skipped : ℕ)
    → ((n : List ℕ) × DataNameReads m x skipped n) ⊎ ((f : MessageFault) × DataNameFails m x skipped f)
data_name_outcome m x skipped =
    elim (cases_lt skipped x.len) [
      | inr short ↦ inr (fault.Body x.offset, inl (short, refl))
      | inl some ↦
          elim (last_outcome m x (x.offset + skipped)) [
            | inl name ↦ inl (name.0, (some, name.1))
            | inr fails ↦ inr (fails.0, inr (some, fails.1))
          ]
    ]

one_data_name : (m : List ℕ) (x : RecordHeader) (skipped : ℕ) (n o : List ℕ) → DataNameReads m x skipped n
    → DataNameReads m x skipped o → n ≡ o
one_data_name m x skipped n o (some, reads) (some2, reads2) =
    (name_unique m (x.offset + skipped) n o (x.offset + x.len) (x.offset + x.len) reads reads2).0

-- data has one value or one fault
record DataDecided (Reads : Body → Type 0) (Fails : MessageFault → Type 0) : Type 0 where
  pub one : (b c : Body) → Reads b → Reads c → b ≡ c
  pub not_both : (b : Body) (f : MessageFault) → Reads b → Fails f → ⊥
  pub one_fault : (f g : MessageFault) → Fails f → Fails g → f ≡ g
  pub outcome : ((b : Body) × Reads b) ⊎ ((f : MessageFault) × Fails f)

sized_decided : (m : List ℕ) (x : RecordHeader) (size : ℕ) (make : List ℕ → Body)
    → DataDecided (λ b. (x.len ≡ size) × (b ≡ make (data_in m x))) (λ f. (x.len ≢ size) × (f ≡ fault.Body x.offset))
sized_decided m x size make = record {
  one = λ b c r s. r.1 ∙ sym s.1;
  not_both = λ b f r d. d.0 r.0;
  one_fault = λ f g a b. a.1 ∙ sym b.1;
  outcome = elim (same_or_not x.len size) [
    | inl e ↦ inl (make (data_in m x), (e, refl))
    | inr other ↦ inr (fault.Body x.offset, (other, refl))
  ];
}

ending_decided : (m : List ℕ) (x : RecordHeader) (skipped : ℕ) (make : List ℕ → Body)
    → DataDecided (λ b. (n : List ℕ) × DataNameReads m x skipped n × (b ≡ make n)) (DataNameFails m x skipped)
ending_decided m x skipped make = record {
  one = λ b c r s. r.2 ∙ ap make (one_data_name m x skipped r.0 s.0 r.1 s.1) ∙ sym s.2;
  not_both = λ b f r d. data_name_not_both m x skipped r.0 f r.1 d;
  one_fault = data_name_one_fault m x skipped;
  outcome = elim (data_name_outcome m x skipped) [
    | inl name ↦ inl (make name.0, (name.0, name.1, refl))
    | inr fails ↦ inr fails
  ];
}

-- the data of a wanted record
data_decided : (m : List ℕ) (x : RecordHeader) (k : RecordType) → DataDecided (DataReads m x k) (DataFails m x k)
data_decided m x kind.A = sized_decided m x 4 (λ octets. body.A octets)
data_decided m x kind.Aaaa = sized_decided m x 16 (λ octets. body.Aaaa octets)
data_decided m x kind.Txt = record {
  one = λ b c r s. r ∙ sym s;
  not_both = λ b f r d. d;
  one_fault = λ f g a b. absurd a;
  outcome = inl (body.Txt (data_in m x), refl);
}
data_decided m x kind.Ptr = ending_decided m x 0 (λ n. body.Ptr n)
data_decided m x kind.Srv =
    ending_decided m x 6 (λ n. body.Srv (word_at x.offset m) (word_at (x.offset + 2) m) (word_at (x.offset + 4) m) n)

-- the values of a record
one_telling : (m owner : List ℕ) (x : RecordHeader) (o : Option RecordType) (xs ys : List HeardRecord)
    → RecordTells m owner x o xs → RecordTells m owner x o ys → xs ≡ ys
one_telling m owner x None xs ys a b = a ∙ sym b
one_telling m owner x (Some k) xs ys (b, reads, e) (c, reads2, i) =
    e ∙ ap (λ d. heard_record owner x d ∷ []) ((data_decided m x k).one b c reads reads2) ∙ sym i

telling_not_both : (m owner : List ℕ) (x : RecordHeader) (o : Option RecordType) (xs : List HeardRecord)
    (f : MessageFault) → RecordTells m owner x o xs → RecordTellingFails m x o f → ⊥
telling_not_both m owner x None xs f a d = d
telling_not_both m owner x (Some k) xs f (b, reads, e) d = (data_decided m x k).not_both b f reads d

telling_one_fault : (m : List ℕ) (x : RecordHeader) (o : Option RecordType) (f g : MessageFault)
    → RecordTellingFails m x o f → RecordTellingFails m x o g → f ≡ g
telling_one_fault m x None f g a b = absurd a
telling_one_fault m x (Some k) f g a b = (data_decided m x k).one_fault f g a b

telling_outcome : (m owner : List ℕ) (x : RecordHeader) (o : Option RecordType)
    → ((xs : List HeardRecord) × RecordTells m owner x o xs) ⊎ ((f : MessageFault) × RecordTellingFails m x o f)
telling_outcome m owner x None = inl ([], refl)
telling_outcome m owner x (Some k) =
    elim (data_decided m x k).outcome [
      | inl reads ↦ inl (heard_record owner x reads.0 ∷ [], (reads.0, reads.1, refl))
      | inr fails ↦ inr (fails.0, fails.1)
    ]

-- records
record_rest_not_both : (m : List ℕ) (section : Section) (owner : List ℕ) (p : ℕ) (xs : List HeardRecord) (q : ℕ)
    (f : MessageFault) → RecordRest m section owner p xs q → RecordRestFails m section p f → ⊥
record_rest_not_both m section owner p xs q f a h = grind (arith, telling_not_both, header_of)

header_one_fault : (m : List ℕ) (p : ℕ) (f g : MessageFault) → HeaderFails m p f → HeaderFails m p g → f ≡ g
header_one_fault m p f g h k = grind arith

header_not_both : (m : List ℕ) (p : ℕ) (f : MessageFault) → HeaderStands m p → HeaderFails m p f → ⊥
header_not_both m p f stands (inl a) = absurd (omega (arith, stands.whole, a.0))
header_not_both m p f stands (inr (whole, a)) = absurd (omega (arith, stands.within, a.0))

record_rest_one_fault : (m : List ℕ) (section : Section) (p : ℕ) (f g : MessageFault) → RecordRestFails m section p f
    → RecordRestFails m section p g → f ≡ g
record_rest_one_fault m section p f g h k = grind (arith, header_one_fault, header_not_both, telling_one_fault, header_of)

record_rest_outcome : (m : List ℕ) (section : Section) (owner : List ℕ) (p : ℕ)
    → ((xs : List HeardRecord) × (q : ℕ) × RecordRest m section owner p xs q)
    ⊎ ((f : MessageFault) × RecordRestFails m section p f)
record_rest_outcome m section owner p =
    elim (cases_lt (length m) (p + 10)) [
      | inl short ↦ inr (fault.Cut p, inl (inl (short, refl)))
      | inr whole ↦
          elim (cases_lt (length m) (p + 10 + word_at (p + 8) m)) [
            | inl short ↦ inr (fault.Cut (p + 10), inl (inr (whole, (short, refl))))
            | inr within ↦
                let stands : HeaderStands m p = record { whole = whole; within = within } in
                elim (telling_outcome m owner (header_of m p) (wanted section (header_of m p))) [
                  | inl tells ↦
                      inl (tells.0, p + 10 + word_at (p + 8) m, record { header = stands; tells = tells.1; on = refl })
                  | inr fails ↦ inr (fails.0, inr (stands, fails.1))
                ]
          ]
    ]

record_decided : (m : List ℕ) (section : Section) → IsDecided (RecordStands m section) (RecordFails m section)
record_decided m section =
    named_decided m (RecordRest m section) (RecordRestFails m section)
    (λ owner. record {
      one = λ p xs ys q r a b.
          (one_telling m owner (header_of m p) (wanted section (header_of m p)) xs ys a.tells b.tells, a.on ∙ sym b.on);
      not_both = record_rest_not_both m section owner;
      one_fault = record_rest_one_fault m section;
      outcome = record_rest_outcome m section owner;
    })

-- a section of records
records_decided : (m : List ℕ) (section : Section) → IsDecided (RecordSection m section) (RecordSectionFails m section)
records_decided m section =
    run_decided (RecordStands m section) (RecordFails m section) (record_decided m section) (word_at (count_offset section) m)

-- the four sections
sections_decided : (m : List ℕ) → IsDecided (Sections m) (SectionsFail m)
sections_decided m = grind (
  arith,
  run_decided (QuestionStands m) (QuestionFails m) (question_decided m) (word_at 4 m),
  question_decided m,
  records_decided m Answer,
  records_decided m Authority,
  records_decided m Additional,
  pair_decided,
)

-- whole messages
pub message_outcome : (moment : Moment) (m : List ℕ) → HasHeader m
    → ((hs : List Hearing) × MessageReads moment m hs) ⊎ ((f : MessageFault) × MessageFails m f)
message_outcome moment m header =
    elim ((sections_decided m).outcome 12) [
      | inl reads ↦
          inl (
            map (hearing_of moment) reads.0,
            record {
              header = header;
              told = reads.0;
              next = reads.1;
              sections = reads.2;
              heard = refl;
            },
          )
      | inr fails ↦ inr (fails.0, record { header = header; fails = fails.1 })
    ]

pub message_not_both : (moment : Moment) (m : List ℕ) (hs : List Hearing) (f : MessageFault)
    → MessageReads moment m hs → MessageFails m f → ⊥
message_not_both moment m hs f a b = (sections_decided m).not_both 12 a.told a.next f a.sections b.fails

pub one_hearing_list : (moment : Moment) (m : List ℕ) (hs gs : List Hearing) → MessageReads moment m hs → MessageReads moment m gs → hs ≡ gs
one_hearing_list moment m hs gs a b =
    a.heard ∙ ap (λ told. map (hearing_of moment) told)
    ((sections_decided m).one 12 a.told b.told a.next b.next a.sections b.sections).0 ∙ sym b.heard

pub one_message_fault : (m : List ℕ) (f g : MessageFault) → MessageFails m f → MessageFails m g → f ≡ g
one_message_fault m f g a b = (sections_decided m).one_fault 12 f g a.fails b.fails
