-- Objects of the lives of service instances.
use Rattle.std.proofs.Common.{arith, ◌≡◌, ℕ, true, false, List, [], ◌∷◌, ◌++◌, codes}
use Rattle.std.proofs.lemmas.List.{append-nil, append_assoc}
use Rattle.mdns_browse.specs.Json.{json_object, parted}
use Rattle.mdns_browse.proofs.ObjectLemmas.{object_by_members}

-- three members, one more, and the others with the end of the line
pub object_by_parts : (old a b c d names servers new : List ℕ) (rest : List (List ℕ))
    → names ≡ old ++ 123 ∷ parted true (a ∷ b ∷ c ∷ []) → servers ≡ names ++ 44 ∷ d
    → new ≡ servers ++ (parted false rest ++ codes "}\n") → new ≡ old ++ (json_object (a ∷ b ∷ c ∷ d ∷ rest) ++ 10 ∷ [])
unfolding parted
object_by_parts old a b c d names servers new rest first next last =
    grind (arith, append_assoc, append-nil, object_by_members a (b ∷ c ∷ d ∷ []) rest)
