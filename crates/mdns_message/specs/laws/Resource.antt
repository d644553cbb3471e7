-- The orders of keys, data and resources are total, and only equal values compare equal.
use Rattle.std.specs.Prelude.{◌≡◌, ◌↔◌, IsTrue, ℕ, ◌+◌, ◌*◌, ◌/◌, ◌%◌, List, [], ◌∷◌, Option, Some, refl}
use Rattle.std.specs.Ordering.{nat_cmp, ordering_then, eq_by_cmp, is_eq}
use Rattle.std.specs.Cmp.{IsTotalOrder, then_total, on_total, nat_cmp_total, Equal-is, tied_itself}
use Rattle.std.specs.{Cmp.Lexicographic.{slice_cmp, nat_list_cmp_total}, FinMap.{nat_cmp-IsAntisymmetric, slice_cmp-IsAntisymmetric}}
use Rattle.std.specs.declared.cmp.{Ordering.{Ordering}, Ordering.TheVariants.{Less, Equal, Greater}}
use Rattle.std.proofs.Common.{ap, sym, arith, ◌∙◌}
use Rattle.mdns_message.specs.Resource.{Body, numbered_type, number_of, data_of, set_key_cmp, key_cmp, body_cmp, resource_cmp}
use Rattle.mdns_message.specs.{declared.record_type.RecordType.{RecordType}, declared.resource.Resource.{Resource}, RecordSet.{RecordSet}}
use Rattle.mdns_message.specs.declared.key.Key.{Key}
use Rattle.mdns_message.specs.declared.body.RecordData.TheVariants as body
use Rattle.mdns_message.specs.declared.record_type.RecordType.TheVariants as kind

-- lists of bytes that compare equal are the same
pub bytes_cmp-exact : (a b : List ℕ) → slice_cmp nat_cmp a b ≡ Equal → a ≡ b
bytes_cmp-exact = slice_cmp-IsAntisymmetric nat_cmp-IsAntisymmetric

-- where two comparisons one after the other come to `Equal`, each does
pub both_tie : (r s : Ordering) → ordering_then r s ≡ Equal → (r ≡ Equal) × (s ≡ Equal)
both_tie Less s e = (e, absurd (let no : Less ≡ Equal = e in cc))
both_tie Equal s e = (refl, e)
both_tie Greater s e = (e, absurd (let no : Greater ≡ Equal = e in cc))

pub set_key_cmp-exact : (a b : RecordSet) → set_key_cmp a b ≡ Equal → a ≡ b
set_key_cmp-exact a b e =
    let ties = both_tie _ _ e in
    let owner = bytes_cmp-exact a.owner b.owner ties.0 in
    let number = nat_cmp-IsAntisymmetric a.number b.number ties.1 in
    λ i. record { owner = owner i; number = number i }

pub key_cmp-exact : (a b : Key) → key_cmp a b ≡ Equal → a ≡ b
key_cmp-exact a b e =
    let ties = both_tie _ _ e in
    let set = set_key_cmp-exact a.set b.set ties.0 in
    let folded = bytes_cmp-exact a.folded b.folded ties.1 in
    λ i. record { set = set i; folded = folded i }

pub set_key_cmp-total : IsTotalOrder set_key_cmp
set_key_cmp-total = then_total (on_total (λ k. k.owner) nat_list_cmp_total) (on_total (λ k. k.number) nat_cmp_total)

-- set keys compare equal exactly where they are one value
pub set_keys_same : (a b : RecordSet) → IsTrue (eq_by_cmp set_key_cmp a b) ↔ (a ≡ b)
set_keys_same a b = (
  λ equal. set_key_cmp-exact a b ((Equal-is (set_key_cmp a b)).0 equal),
  λ same. ap (λ other. is_eq (set_key_cmp other b)) same ∙ ap is_eq (tied_itself set_key_cmp-total b),
)

pub key_cmp-total : IsTotalOrder key_cmp
key_cmp-total = then_total (on_total (λ k. k.set) set_key_cmp-total) (on_total (λ k. k.folded) nat_list_cmp_total)

pub body_cmp-total : IsTotalOrder body_cmp
body_cmp-total = then_total (on_total number_of nat_cmp_total) (on_total data_of nat_list_cmp_total)

pub resource_cmp-total : IsTotalOrder resource_cmp
resource_cmp-total = then_total (on_total (λ r. r.owner) nat_list_cmp_total) (on_total (λ r. r.body) body_cmp-total)

word_again : (n : ℕ) → n / 256 * 256 + n % 256 ≡ n
word_again n = omega arith

-- the data of a type with these bytes
abbrev data_with : Option RecordType → List ℕ → Body
data_with (Some kind.A) bytes = body.A bytes
data_with (Some kind.Aaaa) bytes = body.Aaaa bytes
data_with (Some kind.Ptr) bytes = body.Ptr bytes
data_with (Some kind.Txt) bytes = body.Txt bytes
data_with (Some kind.Srv) (a ∷ b ∷ c ∷ d ∷ e ∷ f ∷ target) = body.Srv (a * 256 + b) (c * 256 + d) (e * 256 + f) target
data_with _ _ = body.A []

data_again : (b : Body) → data_with (numbered_type (number_of b)) (data_of b) ≡ b
data_again (body.A x) = refl
data_again (body.Aaaa x) = refl
data_again (body.Ptr x) = refl
data_again (body.Txt x) = refl
data_again (body.Srv p w q t) = λ i. body.Srv (word_again p i) (word_again w i) (word_again q i) t

-- data of one type with equal bytes is one value
pub same_data : (a b : Body) → number_of a ≡ number_of b → data_of a ≡ data_of b → a ≡ b
same_data a b number bytes =
    sym (data_again a) ∙ (λ i. data_with (numbered_type (number i)) (bytes i)) ∙ data_again b

pub body_cmp-exact : (a b : Body) → body_cmp a b ≡ Equal → a ≡ b
body_cmp-exact a b e =
    let ties = both_tie _ _ e in
    same_data a b (nat_cmp-IsAntisymmetric (number_of a) (number_of b) ties.0) (bytes_cmp-exact (data_of a) (data_of b) ties.1)

pub resource_cmp-exact : (a b : Resource) → resource_cmp a b ≡ Equal → a ≡ b
resource_cmp-exact a b e =
    let ties = both_tie _ _ e in
    let owner = bytes_cmp-exact a.owner b.owner ties.0 in
    let body = body_cmp-exact a.body b.body ties.1 in
    λ i. record { owner = owner i; body = body i }
