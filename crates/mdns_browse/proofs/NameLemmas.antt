-- One label and then a rest: how the bytes of a name decide this, and what a record gives by the names in it.
use Rattle.std.proofs.Common.{◌≡◌, refl, sym, ◌∙◌, ap, ℕ, suc, ◌≤◌, inl, inr, ◌↔◌, Bool, true, ◌&&◌, nat_le, min}
use Rattle.std.proofs.Common.{Decides, Option, None, Some, List, [], ◌∷◌, ◌++◌, length, length-append, take, drop, codes, arith}
use Rattle.std.proofs.{Math.Seq.{drop-append_seam}, lemmas.Bool.{false≢true}}
use Rattle.std.proofs.lemmas.Bool.Decides.{Decides-and, Decides-like, Decides-not, Decides-or, nat_tests, same_from_decides}
use Rattle.std.proofs.lemmas.{List.{length-take-le, take-append-drop}, Option.{cond_some, none-some, same_Some}}
use Rattle.std.specs.{Char.{to_ascii_lowercase}, Cmp.Lexicographic.{slice_cmp, bytes_decides, texts_ties}, Ordering.{is_eq, nat_cmp}}
use Rattle.dns_name.specs.Name.{IsLabel, folded, longest_label, wire_of}
use Rattle.mdns_join.specs.declared.latest.Latest.{Latest}
use Rattle.mdns_browse.specs.Services.{GivesInstance, GivesOther, GivesType, IsServiceName, IsInstanceOf, instance_given}
use Rattle.mdns_browse.specs.Services.{is_instance_of, is_service_name, name_if, other_given, same_text, type_given}

-- ---- folding

pub length-folded : (bytes : List ℕ) → length (folded bytes) ≡ length bytes
length-folded [] = refl
length-folded (b ∷ bytes) = ap suc (length-folded bytes)

pub folded-append : (xs ys : List ℕ) → folded (xs ++ ys) ≡ folded xs ++ folded ys
folded-append [] ys = refl
folded-append (x ∷ xs) ys = ap (λ rest. to_ascii_lowercase x ∷ rest) (folded-append xs ys)

pub same_list : (xs ys : List ℕ) → Decides (is_eq (slice_cmp nat_cmp xs ys)) (xs ≡ ys)
same_list xs ys = (
  λ tied. (bytes_decides xs ys).0 (texts_ties xs ys ∙ tied),
  λ same. sym (texts_ties xs ys) ∙ (bytes_decides xs ys).1 same,
)

pub same_text-decides : (a b : List ℕ) → Decides (same_text a b) (folded a ≡ folded b)
unfolding same_text
same_text-decides a b = same_list (folded a) (folded b)

pub text_test : (a b : List ℕ) (r : Bool) → Decides r (folded a ≡ folded b) → r ≡ same_text a b
text_test a b r decides = same_from_decides r (same_text a b) decides (same_text-decides a b)

-- ---- one label and a rest

-- a length octet is no letter
octet-folded : (n : ℕ) → n ≤ 63 → to_ascii_lowercase n ≡ n
octet-folded n few = grind (arith, nat_tests)

octet-unfolded : (n : ℕ) → to_ascii_lowercase n ≤ 63 → n ≡ to_ascii_lowercase n
octet-unfolded n few = grind (arith, nat_tests)

folded-parts : (label rest name : List ℕ) → IsLabel label → name ≡ length label ∷ (label ++ rest)
    → folded name ≡ length (folded label) ∷ (folded label ++ folded rest)
folded-parts label rest name sized whole = grind (arith, whole, label, rest, octet-folded, sized, length-folded, folded-append)

pub instance-from : (service label rest name : List ℕ) → IsLabel label → name ≡ length label ∷ (label ++ rest)
    → folded rest ≡ folded service → IsInstanceOf service name
instance-from service label rest name sized whole same = record {
  label = folded label;
  sized = record {
    some_bytes = omega (arith, length-folded label, sized.some_bytes);
    few_bytes = omega (arith, length-folded label, sized.few_bytes);
  };
  spelled = folded-parts label rest name sized whole ∙ ap (λ bytes. length (folded label) ∷ (folded label ++ bytes)) same;
}

first_octet : (m n : ℕ) (xs ys : List ℕ) → m ∷ xs ≡ n ∷ ys → (m ≡ n) × (xs ≡ ys)
first_octet m n xs ys same = (cc, cc)

pub instance-rest : (service label rest name : List ℕ) → IsLabel label → name ≡ length label ∷ (label ++ rest)
    → IsInstanceOf service name → folded rest ≡ folded service
instance-rest service label rest name sized whole is =
    let parts = first_octet _ _ _ _ (sym (folded-parts label rest name sized whole) ∙ is.spelled) in
    sym (drop-append_seam (folded label) (folded rest))
    ∙ ap (λ n. drop n (folded label ++ folded rest)) parts.0
    ∙ ap (drop (length is.label)) parts.1
    ∙ drop-append_seam is.label (folded service)

-- ---- the tests

-- a label of so many bytes is before the rest
record Fits (count : ℕ) (bytes : List ℕ) : Type 0 where
  some_bytes : 1 ≤ count
  few_bytes : count ≤ longest_label
  within : count ≤ length bytes

fits-decides : (count : ℕ) (bytes : List ℕ) → Decides (nat_le 1 count && nat_le count (min longest_label (length bytes))) (Fits count bytes)
fits-decides count bytes = (
  λ passes. record { some_bytes = grind (arith, nat_tests); few_bytes = grind (arith, nat_tests); within = grind (arith, nat_tests) },
  λ fits. let some = fits.some_bytes in let few = fits.few_bytes in let within = fits.within in grind (arith, nat_tests),
)

-- a name that begins with a label
pub record Begins (name : List ℕ) : Type 0 where
  pub label : List ℕ
  pub rest : List ℕ
  pub sized : IsLabel label
  pub whole : name ≡ length label ∷ (label ++ rest)

abbrev begins : (count : ℕ) (bytes : List ℕ) → Fits count bytes → Begins (count ∷ bytes)
begins count bytes fits =
    let counted = length-take-le count bytes fits.within in
    record {
      label = take count bytes;
      rest = drop count bytes;
      sized = record {
        some_bytes = omega (arith, counted, fits.some_bytes);
        few_bytes = omega (arith, counted, fits.few_bytes);
      };
      whole = ap (λ n. n ∷ bytes) (sym counted) ∙ ap (λ all. length (take count bytes) ∷ all) (sym (take-append-drop count bytes));
    }

-- a name whose bytes pass the test begins with a label
pub test-begins : (service name : List ℕ) → is_instance_of service name ≡ true → Begins name
unfolding is_instance_of
test-begins service [] passes = absurd (false≢true passes)
test-begins service (count ∷ bytes) passes =
    begins count bytes
    ((Decides-and _ _ (fits-decides count bytes) (same_text-decides (drop count bytes) service)).0 passes).0

-- an instance's name begins with a label
instance-fits : (service : List ℕ) (count : ℕ) (bytes : List ℕ) → IsInstanceOf service (count ∷ bytes) → Fits count bytes
instance-fits service count bytes is =
    let parts = first_octet _ _ _ _ is.spelled in
    let few : to_ascii_lowercase count ≤ 63 = omega (arith, parts.0, is.sized.few_bytes) in
    let same = octet-unfolded count few ∙ parts.0 in
    let lengths = ap length parts.1 in
    record {
      some_bytes = omega (arith, same, is.sized.some_bytes);
      few_bytes = omega (arith, same, is.sized.few_bytes);
      within = omega (arith, same, lengths, length-folded bytes, length-append is.label (folded service));
    }

pub instance-decides : (service name : List ℕ) → Decides (is_instance_of service name) (IsInstanceOf service name)
unfolding is_instance_of
instance-decides service [] = grind arith
instance-decides service (count ∷ bytes) =
    Decides-like _
    (λ both.
    let own = begins count bytes both.0 in instance-from service own.label own.rest (count ∷ bytes) own.sized own.whole both.1)
    (λ is.
    let fits = instance-fits service count bytes is in
    let own = begins count bytes fits in
    (fits, instance-rest service own.label own.rest (count ∷ bytes) own.sized own.whole is))
    (Decides-and _ _ (fits-decides count bytes) (same_text-decides (drop count bytes) service))

-- the name behind the first label of a service's
abbrev transport_of : List ℕ → List ℕ
transport_of protocol = wire_of (protocol ∷ codes "local" ∷ [])

pub service-decides : (name : List ℕ) → Decides (is_service_name name) (IsServiceName name)
unfolding is_service_name
service-decides name =
    Decides-like _
    (λ either. elim either [
      | inl tcp ↦ record { label = tcp.label; sized = tcp.sized; protocol = codes "_tcp"; transport = inl refl; spelled = tcp.spelled }
      | inr udp ↦ record { label = udp.label; sized = udp.sized; protocol = codes "_udp"; transport = inr refl; spelled = udp.spelled }
    ])
    (λ is. elim is.transport [ inl tcp ↦ inl (own is (codes "_tcp") tcp refl) | inr udp ↦ inr (own is (codes "_udp") udp refl) ])
    (Decides-or _ _ (instance-decides (transport_of (codes "_tcp")) name) (instance-decides (transport_of (codes "_udp")) name))
  where
    own : (is : IsServiceName name) (protocol : List ℕ) → is.protocol ≡ protocol → transport_of protocol ≡ folded (transport_of protocol)
        → IsInstanceOf (transport_of protocol) name
    own is protocol same plain = record {
      label = is.label;
      sized = is.sized;
      spelled = is.spelled ∙ ap (λ p. length is.label ∷ (is.label ++ transport_of p)) same
          ∙ ap (λ bytes. length is.label ∷ (is.label ++ bytes)) plain;
    }

-- ---- what a record gives

-- a name for which the test holds
name_if-decides : (test : List ℕ → Bool) (Holds : List ℕ → Type 0) → ((name : List ℕ) → Decides (test name) (Holds name))
    → (pointer : Option (List ℕ)) (name : List ℕ) → (name_if test pointer ≡ Some name) ↔ ((pointer ≡ Some name) × Holds name)
name_if-decides test Holds decides None name = grind (arith, none-some)
name_if-decides test Holds decides (Some target) name = grind (arith, cond_some, same_Some)

pub type-gives : (row : Latest) (name : List ℕ) → (type_given row ≡ Some name) ↔ GivesType row name
unfolding type_given
type-gives row name = grind (arith, name_if-decides, Decides-and, same_text-decides, service-decides)

pub instance-gives : (row : Latest) (name : List ℕ) → (instance_given row ≡ Some name) ↔ GivesInstance row name
unfolding instance_given
instance-gives row name = grind (arith, name_if-decides, Decides-and, service-decides, instance-decides)

pub other-gives : (row : Latest) (name : List ℕ) → (other_given row ≡ Some name) ↔ GivesOther row name
unfolding other_given
other-gives row name = grind (arith, name_if-decides, Decides-and, service-decides, Decides-not, instance-decides)

-- WHAT FUNCTIONS ARE PROVED BY

pub ruleset for_given_by_labels = (instance-decides, instance-gives, other-gives, service-decides, type-gives)

pub ruleset for_is_instance_of = (instance-decides, instance-from, instance-rest, same_text-decides, test-begins)
