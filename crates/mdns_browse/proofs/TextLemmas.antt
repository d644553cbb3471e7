-- The texts of groups, strings and pieces, one step at a time.
use Rattle.std.proofs.Common.{arith, ◌≡◌, refl, sym, ◌∙◌, ap, ℕ, zero, suc, ◌+◌, List, [], ◌∷◌, ◌++◌, add-one}
use Rattle.std.proofs.lemmas.List.{append_assoc}
use Rattle.mdns_message.specs.TextData.{strings_of}
use Rattle.mdns_browse.specs.RecordText.{ipv6_text, placed_group, string_words, text_words}

-- the first groups of an IPv6 address
unfoldable pub groups_text : List ℕ → ℕ → List ℕ
groups_text octets zero = []
groups_text octets (suc k) = groups_text octets k ++ placed_group octets k

groups_all : (octets : List ℕ) → groups_text octets 8 ≡ ipv6_text octets
unfolding groups_text ipv6_text
groups_all octets = refl

-- a group written before the groups after it
pub groups_before-step : (octets text new all : List ℕ) (count k : ℕ) → count ≡ k + 1 → groups_text octets count ++ text ≡ all
    → new ≡ placed_group octets k ++ text → groups_text octets k ++ new ≡ all
unfolding groups_text
groups_before-step octets text new all count k next before written =
    grind (arith, append_assoc (groups_text octets k) (placed_group octets k) text, add-one k)

-- all groups once no group is left to write
pub groups_before-all : (octets text : List ℕ) (count : ℕ) → count ≡ 0 → groups_text octets count ++ text ≡ groups_text octets 8
    → text ≡ ipv6_text octets
unfolding groups_text
groups_before-all octets text count none before = ap (λ n. groups_text octets n ++ text) (sym none) ∙ before ∙ groups_all octets

-- the words of one string, and those of the others
pub text_words-cons : (bytes string after : List ℕ) → strings_of bytes ≡ string ∷ strings_of after
    → text_words bytes ≡ string_words string ++ text_words after
unfolding text_words
text_words-cons bytes string after split = rw split refl

pub text_words-none : (bytes : List ℕ) → bytes ≡ [] → text_words bytes ≡ []
unfolding text_words
text_words-none bytes none = rw none refl

-- WHAT FUNCTIONS ARE PROVED BY

pub ruleset for_push_text_words = (text_words-cons, text_words-none)
