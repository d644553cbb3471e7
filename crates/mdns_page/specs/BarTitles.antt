-- What bars say of lives.
use Rattle.std.specs.Prelude.{◌≡◌, ◌+◌, ◌-◌, ◌<◌, Bool, if◌then◌else◌, List, ℕ, ◌++◌, Option, None, Some, codes}
use Rattle.mdns_lives.specs.declared.life.Life.{Life}
use Rattle.mdns_browse.specs.LifeText.{open_text, reason_text, taken_back_text}
use Rattle.people_text.specs.MomentText.{duration_text, millis_text}

-- a count less a number, if it is so many
abbrev pub IsLess : (count number : ℕ) → Option ℕ → Type 0
IsLess count number None = count < number
IsLess count number (Some rest) = rest + number ≡ count

-- why a life ended, or that it goes on, and the goodbye that was taken back in it
abbrev pub end_words : Bool → Life → List ℕ
end_words goes_on life =
    (if goes_on then codes "still " ++ open_text life.reason else reason_text life.reason) ++ taken_back_text life.taken_back

-- the title of a life's bar: from when until when, to the millisecond, how long that is, and why it ended, or that it goes on
unfoldable pub life_title : Bool → Life → List ℕ
life_title goes_on life =
    millis_text life.from.nanos ++ codes " to " ++ millis_text life.until ++ codes ", "
    ++ duration_text (life.until - life.from.nanos) ++ codes ": "
    ++ end_words goes_on life
