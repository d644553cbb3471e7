-- Tests of equality that decide it, of options, lists of pairs and contents.
use Rattle.std.proofs.Common.{arith, ◌≡◌, ℕ, Bool, true, ◌&&◌, ◌↔◌, List, Option, None, Some, refl, sym, ap, ◌∙◌}
use Rattle.std.proofs.lemmas.{Bool.{false≢true, and_parts, and_from, eqb-true, eq-eqb}, Cmp.{tied_itself}}
use Rattle.std.specs.{Option.{option_eq}, Cmp.Lexicographic.{pointwise, pointwise_decides, bytes_decides}, declared.cmp.Ordering.{Ordering}}
use Rattle.std.specs.{declared.cmp.Ordering.TheVariants.{Equal}, Ordering.{on, is_eq, eq_by_cmp}, Cmp.{IsTotalOrder}, Prelude.{nat_eq}}
use Rattle.mdns_capture.specs.declared.moment.Moment.{Moment}
use Rattle.mdns_message.specs.{declared.key.Key.{Key}, RecordSet.{RecordSet}, Resource.{key_cmp, set_key_cmp}}
use Rattle.mdns_message.specs.laws.Resource.{key_cmp-total, key_cmp-exact, set_key_cmp-total, set_key_cmp-exact}
use Rattle.mdns_join.specs.{declared.latest.Latest.{Latest}, Latest.{latest_cmp}}
use Rattle.mdns_join.specs.laws.Latest.{latest_cmp-total, latest_cmp-exact, moment-same}
use Rattle.mdns_cache.specs.{Contents.{Contents}, Equal.{eq_newest, eq_lasts, eq_flushes, eq_contents}}
use Rattle.mdns_cache.proofs.ContentsLemmas.{same_contents}
use Rattle.join_map.specs.laws.Entries.{is_Equal}

abbrev pub DecidesEquality : {A : Type 0} → (A → A → Bool) → Type 0
DecidesEquality {A} eq = (x y : A) → (eq x y ≡ true) ↔ (x ≡ y)

pub option_tells : {A : Type 0} (eq : A → A → Bool) → DecidesEquality eq → DecidesEquality (option_eq eq)
option_tells eq t None None = (λ e. refl, λ e. refl)
option_tells eq t None (Some y) = (λ e. absurd (false≢true e), λ e. absurd (cc))
option_tells eq t (Some x) None = (λ e. absurd (false≢true e), λ e. absurd (cc))
option_tells eq t (Some x) (Some y) = (λ e. ap Some ((t x y).0 e), λ e. (t x y).1 (let f : x ≡ y = cc in f))

pub pair_tells : {A B : Type 0} (eq : A → A → Bool) (same : B → B → Bool) → DecidesEquality eq → DecidesEquality same
    → DecidesEquality (λ (p q : A × B). eq p.0 q.0 && same p.1 q.1)
pair_tells {A} {B} eq same t u p q = grind (arith, and_parts, and_from)

pub list_tells : {A : Type 0} (eq : A → A → Bool) → DecidesEquality eq → DecidesEquality (pointwise eq)
list_tells eq t = pointwise_decides t

pub contents_tells : (n : Option Moment → Option Moment → Bool) (l : List (Key × Latest) → List (Key × Latest) → Bool)
    (f : List (RecordSet × List ℕ) → List (RecordSet × List ℕ) → Bool) → DecidesEquality n → DecidesEquality l
    → DecidesEquality f
    → DecidesEquality (λ (c d : Contents). n c.newest d.newest && (l c.lasts d.lasts && f c.flushes d.flushes))
contents_tells n l f tn tl tf c d = grind (arith, and_parts, same_contents, and_from)

order_tells : {A : Type 0} (cmp : A → A → Ordering) → IsTotalOrder cmp → ((x y : A) → cmp x y ≡ Equal → x ≡ y)
    → DecidesEquality (eq_by_cmp cmp)
order_tells cmp total exact x y = (λ e. exact x y (is_Equal (cmp x y) e), λ e. ap is_eq (sym (ap (cmp x) e) ∙ tied_itself total x))

moment_tells : DecidesEquality (on (λ (m : Moment). m.nanos) nat_eq)
moment_tells x y = (λ e. moment-same x y (eqb-true x.nanos y.nanos e), λ e. eq-eqb x.nanos y.nanos (ap (λ (m : Moment). m.nanos) e))

pub eq_contents_tells : DecidesEquality eq_contents
eq_contents_tells =
    contents_tells eq_newest eq_lasts eq_flushes (option_tells _ moment_tells)
    (list_tells _ (pair_tells (eq_by_cmp key_cmp) (eq_by_cmp latest_cmp)
    (order_tells key_cmp key_cmp-total key_cmp-exact) (order_tells latest_cmp latest_cmp-total latest_cmp-exact)))
    (list_tells _ (pair_tells (eq_by_cmp set_key_cmp) (pointwise nat_eq)
    (order_tells set_key_cmp set_key_cmp-total set_key_cmp-exact) bytes_decides))

pub same_by_parts : (n : Option Moment → Option Moment → Bool) (l : List (Key × Latest) → List (Key × Latest) → Bool)
    (f : List (RecordSet × List ℕ) → List (RecordSet × List ℕ) → Bool) → DecidesEquality n → DecidesEquality l
    → DecidesEquality f → (x y c d : Contents) → x ≡ c → y ≡ d → (r a b g : Bool) → r ≡ (a && (b && g))
    → a ≡ n x.newest y.newest → b ≡ l x.lasts y.lasts → g ≡ f x.flushes y.flushes → (r ≡ true) ↔ (c ≡ d)
same_by_parts n l f tn tl tf x y c d p q r a b g whole e h i = grind (arith, contents_tells)
