-- Members of objects and values of arrays, group after group.
use Rattle.std.proofs.Common.{◌≡◌, ℕ, Bool, false, List, [], ◌∷◌, ◌++◌, refl, append_assoc, append-nil, arith}
use Rattle.std.specs.List.{flat_map}
use Rattle.mdns_browse.specs.Json.{first_after, json_object, parted}
use Rattle.mdns_trace.specs.VerdictJson.{AddsObjects}
use Rattle.std.proofs.lemmas.Result.{IfOk-weaker}

first_after-false : {X : Type 0} (xs : List X) → first_after false xs ≡ false
first_after-false [] = refl
first_after-false (x ∷ xs) = refl

parted-append : (first : Bool) (xs ys : List (List ℕ)) → parted first (xs ++ ys) ≡ parted first xs ++ parted (first_after first xs) ys
unfolding parted
parted-append first [] ys = refl
parted-append first (x ∷ xs) ys = grind (arith, first_after-false, append_assoc, parted-append false xs ys)

-- members after others, none of which is the first
pub members-append : (xs ys : List (List ℕ)) → parted false (xs ++ ys) ≡ parted false xs ++ parted false ys
members-append xs ys = grind (arith, parted-append, first_after-false)

pieces-together : (a b c others d e : List ℕ) → ((a ++ (b ++ (c ++ (others ++ (d ++ (e ++ [])))))) ++ 125 ∷ []) ++ 10 ∷ []
    ≡ a ++ (b ++ (c ++ (others ++ (d ++ (e ++ 125 ∷ 10 ∷ [])))))
pieces-together a b c others d e = simp (append_assoc, append-nil)

pieces-after : (old one a b c others d e end : List ℕ) → (((((((old ++ one) ++ a) ++ b) ++ c) ++ others) ++ d) ++ e) ++ end
    ≡ old ++ (one ++ (a ++ (b ++ (c ++ (others ++ (d ++ (e ++ end)))))))
pieces-after old one a b c others d e end = simp append_assoc

-- the line of an object of three members, others, and two more, which were appended one after another
pub object-after : (old opened first second third fourth fifth last new a b c : List ℕ) (xs : List (List ℕ)) (d e : List ℕ)
    → opened ≡ old ++ 123 ∷ [] → first ≡ opened ++ a → second ≡ first ++ 44 ∷ b → third ≡ second ++ 44 ∷ c
    → fourth ≡ third ++ parted false xs → fifth ≡ fourth ++ 44 ∷ d → last ≡ fifth ++ 44 ∷ e → new ≡ last ++ 125 ∷ 10 ∷ []
    → new ≡ old ++ (json_object (a ∷ b ∷ c ∷ (xs ++ d ∷ e ∷ [])) ++ 10 ∷ [])
unfolding parted
object-after old opened first second third fourth fifth last new a b c xs d e one two three four five six seven eight =
    let others = parted false xs in
    grind (arith, members-append xs (d ∷ e ∷ []), pieces-after, pieces-together a (44 ∷ b) (44 ∷ c) others (44 ∷ d) (44 ∷ e))

-- members, and one after them
pub one-after : (old middle new : List ℕ) (xs : List (List ℕ)) (value : List ℕ) → middle ≡ old ++ parted false xs
    → new ≡ middle ++ 44 ∷ value → new ≡ old ++ parted false (xs ++ value ∷ [])
unfolding parted
one-after old middle new xs value one two = rw (two, one, members-append xs (value ∷ [])) (simp (append_assoc, append-nil))

-- three groups of members, and two members after them
pub two-after : (old first second third fourth new : List ℕ) (xs ys zs : List (List ℕ)) (value last : List ℕ)
    → first ≡ old ++ parted false xs → second ≡ first ++ parted false ys → third ≡ second ++ parted false zs
    → fourth ≡ third ++ 44 ∷ value → new ≡ fourth ++ 44 ∷ last
    → new ≡ old ++ parted false (((xs ++ ys) ++ zs) ++ value ∷ last ∷ [])
unfolding parted
two-after old first second third fourth new xs ys zs value last one two three four five =
    grind (arith, members-append, append_assoc, append-nil)

-- the objects of one loss more
pub objects-more : {A : Type 0} (objects : A → List (List ℕ)) (loss : A) (left : List A) (first next : Bool) (old new : List ℕ)
    → AddsObjects first old (objects loss) new next
    → new ++ parted next (flat_map objects left) ≡ old ++ parted first (flat_map objects (loss ∷ left))
objects-more objects loss left first next old new adds = grind (arith, append_assoc, parted-append)

-- WHAT FUNCTIONS ARE PROVED BY

pub ruleset for_push_capture_members = (two-after, IfOk-weaker)

pub ruleset for_push_flaw_members = (one-after, IfOk-weaker)

pub ruleset for_push_loss_objects = (objects-more)
