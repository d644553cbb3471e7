-- How long the words for how a life ends are.
use Rattle.std.proofs.Common.{◌≡◌, refl, ap, ◌∙◌, ℕ, ◌+◌, ◌≤◌, Bool, true, false, List, ◌++◌, length, nat_lt, arith, Some}
use Rattle.std.proofs.lemmas.List.{length-append}
use Rattle.mdns_capture.specs.declared.moment.Moment.{Moment}
use Rattle.mdns_lives.specs.declared.life.{Life.{Life}, EndReason.{EndReason}, EndReason.TheVariants.{Expired, Goodbye, Flushed}}
use Rattle.people_text.specs.MomentText.{clock_text, hours_text, time_text}
use Rattle.mdns_browse.specs.LifeText.{end_shown, end_words, said_at, taken_back_text}

-- how a life ends takes few words
pub words_most : (reason : EndReason) (goes_on : Bool) → length (end_words reason goes_on) ≤ 17
words_most Expired true = omega arith
words_most Expired false = omega arith
words_most Goodbye true = omega arith
words_most Goodbye false = omega arith
words_most Flushed true = omega arith
words_most Flushed false = omega arith

-- a time of day has thirteen letters
pub said_len : (nanos : ℕ) → length (said_at Goodbye nanos) ≡ 13
unfolding time_text clock_text hours_text
said_len nanos = refl

pub taken_back_len : (goodbye : Moment) → length (taken_back_text (Some goodbye)) ≡ 37
unfolding time_text clock_text hours_text
taken_back_len goodbye = refl

pub shown_len : (end : ℕ) (life : Life)
    → length (end_shown end life)
    ≡ length (end_words life.reason (nat_lt end life.until))
    + (length (said_at life.reason life.last.moment.nanos) + length (taken_back_text life.taken_back))
shown_len end life = grind (arith, length-append)

pub ruleset for_end_len = (words_most, said_len, taken_back_len, shown_len)
