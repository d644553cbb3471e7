-- The lives of service instances, by the hearings of the readers listened to.
use Rattle.std.proofs.Common.{◌≡◌, subst, ℕ, ◌≤◌, List, ◌++◌, Option}
use Rattle.std.specs.Prelude.{Contains}
use Rattle.mdns_capture.specs.{declared.moment.Moment.{Moment}, Savefile.{PacketAt}}
use Rattle.mdns_message.specs.declared.hearing.Hearing.{Hearing}
use Rattle.mdns_survey.specs.declared.reading.Reading.{Reading}
use Rattle.mdns_survey.specs.{Filter.{counted, filter_of}, Head.{Heads}, LivesAnswer.{captures_begin, captures_end}, Outcomes.{Outcome}}
use Rattle.mdns_survey.specs.{Question.{HearsReaders, IsAnswer}, Readings.{all_moments, summaries_of}}
use Rattle.mdns_survey.proofs.ListenedLemmas.{known-head, known-read}
use Rattle.mdns_page.specs.declared.service_lives.ServiceLivesRequest.{ServiceLivesRequest}
use Rattle.mdns_page.specs.ServiceLives.{WritesServiceLives, asked_service_lives}

module _ {Heard : List (List PacketAt) → List (List Outcome) → Type 0} (request : ServiceLivesRequest) (lefts : List (Option (List ℕ)))
    (readings : List Reading) (hears : HearsReaders Heard lefts readings) (begin : Option ℕ) (end : Moment)
    (head report text : List ℕ)
    (heads : Heads request.form readings head) (is : text ≡ head ++ report)
    (begins : begin ≡ captures_begin request.as_of (all_moments hears.packets))
    (ends : end.nanos ≡ captures_end request.as_of (all_moments hears.packets))
    (latest : (hearing : Hearing) → Contains (counted (filter_of request.as_of) hears.outcomes) hearing → hearing.moment.nanos ≤ end.nanos)
    (written : ((hearing : Hearing) → Contains (counted (filter_of request.as_of) hears.outcomes) hearing
    → hearing.moment.nanos ≤ end.nanos)
    → WritesServiceLives request (counted (filter_of request.as_of) hears.outcomes) begin end.nanos report) where
  -- they are what is asked for
  pub surveys-services : IsAnswer (asked_service_lives request) lefts (summaries_of readings) text
  surveys-services captures known =
      let heard = counted (filter_of request.as_of) hears.outcomes in
      record {
        packets = hears.packets;
        outcomes = hears.outcomes;
        read = known-read lefts captures hears.packets hears.outcomes readings known hears.read;
        head = head;
        is_head = known-head request.form lefts hears.packets hears.outcomes readings head heads hears.read captures known;
        lives = report;
        writes = subst (λ (b : Option ℕ). WritesServiceLives request heard b (captures_end request.as_of (all_moments hears.packets)) report) begins
            (subst (λ (n : ℕ). WritesServiceLives request heard begin n report) ends (written latest));
        whole = is;
      }
