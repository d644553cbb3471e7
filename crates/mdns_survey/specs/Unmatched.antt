-- What is asked about in vain: nothing that was heard is about it.
use Rattle.std.specs.Prelude.{◌≡◌, ◌≢◌, ◌⊎◌, ℕ, true, List, [], codes, Option, MatchOption, string_bytes}
use Rattle.std.specs.List.{join_by}
use Rattle.mdns_message.specs.declared.{hearing.Hearing.{Hearing}, key.Key.{Key}}
use Rattle.mdns_join.specs.declared.latest.Latest.{Latest}
use Rattle.mdns_cache.specs.Live.{IsLast}
use Rattle.mdns_browse.specs.{About.{keeps_record}, declared.about.Subject.{Subject}}

-- Some record is about one of the subjects by its last hearing, whether it is live or not.
pub record IsHeardAbout (about : List Subject) (heard : List Hearing) : Type 0 where
  pub key : Key
  pub last : Latest
  pub is_last : IsLast heard key last
  pub keeps : keeps_record about last.resource ≡ true

-- the subjects as they were given, with a comma between two
abbrev pub subjects_text : List Subject → List ℕ
subjects_text about = join_by (λ (subject : Subject). string_bytes subject.text) (codes ", ") about

-- what is unmatched: nothing where there are no subjects, or something heard is about one of them, and else the subjects
abbrev pub LeavesUnmatched : List Subject → List Hearing → Option (List ℕ) → Type 0
LeavesUnmatched about heard unmatched =
    MatchOption unmatched ((about ≡ []) ⊎ IsHeardAbout about heard)
    (λ words. (about ≢ []) × (¬ IsHeardAbout about heard) × (words ≡ subjects_text about))
