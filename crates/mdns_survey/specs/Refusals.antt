-- Why a survey is refused, and what was written by then.
use Rattle.std.specs.Prelude.{◌≡◌, ◌≢◌, ℕ, ◌<◌, Bool, true, false, IsTrue, List, ◌∷◌, ◌++◌, length, map, Option}
use Rattle.std.specs.{Prelude.{Some, None, IfSome, All, HoldsAt}, List.{AllPass}}
use Rattle.mdns_capture.specs.{declared.moment.Moment.{Moment}, Savefile.{PacketAt, header_fault}, Stream.{OneMoreFailed}}
use Rattle.mdns_capture.specs.Output.{AppendsPrefix, Writing}
use Rattle.mdns_cache.specs.Live.{IsNewest}
use Rattle.mdns_message.specs.declared.hearing.Hearing.{Hearing}
use Rattle.mdns_survey.specs.declared.{listen.ListenFault.{ListenFault}, request.AsOf.{AsOf}, survey.SurveyFault.{SurveyFault}}
use Rattle.mdns_survey.specs.declared.{survey.SurveyFault.TheVariants.{File, Early, Memory, Write}, summary.Summary.{Summary}}
use Rattle.mdns_survey.specs.{Outcomes.{AllRead, Outcome}, ProgramLines.{IfFile}, Listen.{HasListenFault, IsNoReadFault}, Request.{IsEarly}}
use Rattle.mdns_survey.specs.Surveys.{all_hearings, SurveysBy}

-- The reader at `index`, of readers with these bytes left, has the fault, and no reader before it has a fault in its
-- file header.
pub record FirstFails (lefts : List (Option (List ℕ))) (index : ℕ) (fault : ListenFault) : Type 0 where
  pub before : List (Option (List ℕ))
  pub left : Option (List ℕ)
  pub after : List (Option (List ℕ))
  pub among : lefts ≡ before ++ left ∷ after
  pub place : length before ≡ index
  pub sound : All (λ left. IfSome left (λ bytes. header_fault bytes ≡ None)) before
  pub has_fault : HasListenFault fault left

-- the newest hearing of all captures is at that moment
pub record HasNewest (captures : List (List ℕ)) (newest : Moment) : Type 0 where
  pub packets : List (List PacketAt)
  pub outcomes : List (List Outcome)
  pub summaries : List Summary
  pub read : AllRead captures packets outcomes summaries
  pub is_newest : IsNewest (all_hearings outcomes) newest

-- a prefix of a text that is right was written
pub record WritesPrefix (Is : List Hearing → ℕ → List ℕ → Type 0) (captures : List (List ℕ)) (as_of : AsOf) (out : Writing) : Type 0 where
  pub summaries : List Summary
  pub text : List ℕ
  pub surveys : SurveysBy Is captures as_of summaries text
  pub prefix : AppendsPrefix out.old out.new text

-- Why a survey is refused, over readers with these bytes left: the first reader that fails; a moment earlier than the
-- newest hearing's, which the fault carries; a failed allocation; or a failed write, before which a prefix was written.
abbrev pub RefusesBy : (List Hearing → ℕ → List ℕ → Type 0) → List (Option (List ℕ)) → AsOf → Writing → SurveyFault → Type 0
RefusesBy Is lefts as_of out (File index fault) = FirstFails lefts index fault
RefusesBy Is lefts as_of out (Early newest) =
    IsEarly as_of newest × ((captures : List (List ℕ)) → lefts ≡ map Some captures → HasNewest captures newest)
RefusesBy Is lefts as_of out Memory = Unit {0}
RefusesBy Is lefts as_of out Write =
    (captures : List (List ℕ)) → lefts ≡ map Some captures → WritesPrefix Is captures as_of out

-- nothing was written, unless a write failed, or an allocation where the answer isn't written at once
abbrev pub Leaves : {W : Type 0} → Bool → W → W → SurveyFault → Type 0
Leaves at_once old new Write = Unit {0}
Leaves false old new Memory = Unit {0}
Leaves at_once old new _ = new ≡ old

-- nothing was written, unless a write failed
abbrev pub LeavesOut : {W : Type 0} → W → W → SurveyFault → Type 0
LeavesOut old new = Leaves true old new

-- how many writes had failed before and after: one more where the fault is `Write`, else no more
abbrev pub CountsFailure : Option ℕ → Option ℕ → SurveyFault → Type 0
CountsFailure old new Write = OneMoreFailed old new
CountsFailure old new _ = new ≡ old

-- the fault isn't a read that failed
abbrev pub IsNoSurveyRead : SurveyFault → Type 0
IsNoSurveyRead fault = IfFile fault (λ index why. IsNoReadFault why)

-- An index in the fault is that of one of the readers, and the fault isn't a failed read of a steady reader.
pub record BlamesReaders {R : Type 0} (steady : R → Bool) (readers : List R) (fault : SurveyFault) : Type 0 where
  pub within : IfFile fault (λ index why. index < length readers)
  pub no_read : AllPass steady readers → IsNoSurveyRead fault
  pub spared : IfFile fault (λ index why. HoldsAt (λ reader. IsTrue (steady reader) → IsNoReadFault why) readers index)

-- The fault isn't a failed write of a steady writer. One write failed where the fault is `Write`, else none did.
pub record BlamesWriter (out : Writing) (fault : SurveyFault) : Type 0 where
  pub writer : IsTrue out.steady → fault ≢ Write
  pub counts : CountsFailure out.failures out.new_failures fault

-- a reader that fails, or a failed allocation
abbrev pub RefusesReaders : List (Option (List ℕ)) → SurveyFault → Type 0
RefusesReaders lefts (File index fault) = FirstFails lefts index fault
RefusesReaders lefts (Early newest) = ⊥
RefusesReaders lefts Memory = Unit {0}
RefusesReaders lefts Write = ⊥

-- the reader at this index fails, or an allocation failed
abbrev pub RefusesReader : ℕ → Option (List ℕ) → SurveyFault → Type 0
RefusesReader place left (File index fault) = (index ≡ place) × HasListenFault fault left
RefusesReader place left (Early newest) = ⊥
RefusesReader place left Memory = Unit {0}
RefusesReader place left Write = ⊥
