-- Lines that are written to the error writer one after another.
use Rattle.std.proofs.Common.{map, length, arith, Bool, true, false, cond, IsTrue, ◌≡◌, refl, sym, ap, subst, ◌∙◌, ◌⊎◌}
use Rattle.std.proofs.Common.{inl, inr, ℕ, ◌<◌, List, [], ◌∷◌, ◌++◌, append_assoc, append-nil, Option, Result, Ok, Err}
use Rattle.std.proofs.{Common.{IfOk, String, string_bytes}, lemmas.Bool.{false≢true}, KnownBytes.{Appends-trans}}
use Rattle.std.specs.{Prelude.{codes}, Global.{Global}, Bool.{OnTrue, OnFalse}, Io.KnownBytes.{Appends}}
use Rattle.memory.specs.declared.want.Want.{Want}
use Rattle.mdns_capture.specs.{Stream.{OneMoreFailed}, Output.{AppendsPrefix, Writing}}
use Rattle.mdns_survey.specs.declared.{summary.Summary.{Summary}, survey.SurveyFault.{SurveyFault}}
use Rattle.mdns_survey.specs.{declared.survey.SurveyFault.TheVariants.{File, Early, Memory, Write}, Refusals.{Leaves}}
use Rattle.mdns_survey.specs.{ProgramLines.{ending_line_text, is_whole, said_text}, Said.{AreSaid, Says, SaysAll, SaysPrefix, ending_lines}}

longer : (rest more : List ℕ) → 0 < length rest → 0 < length (rest ++ more)
longer [] more some = absurd (omega (arith, some))
longer (x ∷ rest) more some = omega arith

-- a prefix of a text is one of the text with more after it
pub prefix-of-more : (old new : Option (List ℕ)) (text more : List ℕ) → AppendsPrefix old new text → AppendsPrefix old new (text ++ more)
prefix-of-more old new text more (prefix, (rest, split, appended, some)) =
    (prefix, (rest ++ more, ap (λ t. t ++ more) split ∙ append_assoc prefix rest more, appended, longer rest more some))

-- a text, and then a prefix of more
pub prefix-after : (old mid new : Option (List ℕ)) (text more : List ℕ) → Appends old mid text → AppendsPrefix mid new more
    → AppendsPrefix old new (text ++ more)
prefix-after old mid new text more first (prefix, (rest, split, appended, some)) =
    grind (arith, append_assoc text prefix rest, Appends-trans old mid new text prefix first appended)

module _ (program : List ℕ) where
  -- a line as a program writes it
  abbrev pub IsSaid : List ℕ → List ℕ → Type 0
  IsSaid line said = (said ≡ line) ⊎ (said ≡ program ++ codes ": out of memory")

  -- lines said one after another
  pub said-append : (lines others : List (List ℕ)) (text other : List ℕ) → AreSaid program lines text → AreSaid program others other
      → AreSaid program (lines ++ others) (text ++ other)
  said-append [] others text other none more = subst (λ t. AreSaid program others (t ++ other)) (sym none) more
  said-append (line ∷ lines) others text other (said, (rest, is, split, after)) more =
      grind (arith, append_assoc, said-append lines others rest other after more)

  -- the lines as they are
  abbrev pub plain : List (List ℕ) → List ℕ
  plain [] = []
  plain (line ∷ lines) = line ++ 10 ∷ plain lines

  pub plain-said : (lines : List (List ℕ)) → AreSaid program lines (plain lines)
  plain-said [] = refl
  plain-said (line ∷ lines) = (line, (plain lines, inl refl, refl, plain-said lines))

  ending-cases : (name : List ℕ) (summary : Summary) (names : List (List ℕ)) (summaries : List Summary) (b : Bool)
      → cond b (ending_lines program names summaries) (ending_line_text program name summary.ending ∷ ending_lines program names summaries)
      ≡ cond b [] (ending_line_text program name summary.ending ∷ []) ++ ending_lines program names summaries
  ending-cases name summary names summaries true = refl
  ending-cases name summary names summaries false = refl

  -- the lines of the first capture, and then those of the others
  pub ending_lines-first : (name : List ℕ) (summary : Summary) (names : List (List ℕ)) (summaries : List Summary)
      → ending_lines program (name ∷ names) (summary ∷ summaries)
      ≡ ending_lines program (name ∷ []) (summary ∷ []) ++ ending_lines program names summaries
  ending_lines-first name summary names summaries = ending-cases name summary names summaries (is_whole summary.ending)

  -- the lines written so far: with any text of the lines that are left, they make a text of all lines
  pub record SaidSoFar (all left : List (List ℕ)) (old new : Option (List ℕ)) : Type 0 where
    pub done : List ℕ
    pub appended : Appends old new done
    pub leads : (rest : List ℕ) → AreSaid program left rest → AreSaid program all (done ++ rest)

  -- one capture more
  pub so_far-more : (all first others : List (List ℕ)) (old mid new : Option (List ℕ)) → SaidSoFar all (first ++ others) old mid
      → SaysAll program first mid new → SaidSoFar all others old new
  so_far-more all first others old mid new far (text, said, appended) =
      grind (arith, Appends-trans old mid new far.done text far.appended appended, append_assoc, said-append)

  -- after a line that wasn't written whole, no other is written
  pub so_far-ends : (all first others : List (List ℕ)) (old mid new : Option (List ℕ)) → SaidSoFar all (first ++ others) old mid
      → SaysPrefix program first mid new → SaysPrefix program all old new
  so_far-ends all first others old mid new far (text, said, prefix) = (
    far.done ++ (text ++ plain others),
    far.leads (text ++ plain others) (said-append first others text (plain others) said (plain-said others)),
    prefix-after old mid new far.done (text ++ plain others) far.appended (prefix-of-more mid new text (plain others) prefix),
  )

  -- no line is left to write
  pub so_far-all : (all left : List (List ℕ)) (old new : Option (List ℕ)) → SaidSoFar all left old new → left ≡ []
      → SaysAll program all old new
  so_far-all all left old new far none = grind (arith, append-nil far.done)

  -- lines that were written whole, or in part
  pub says-lines : (b : Bool) (lines : List (List ℕ)) (err : Writing) → OnTrue b (SaysAll program lines err.old err.new)
      → OnFalse b (SaysPrefix program lines err.old err.new) → OnTrue b (err.new_failures ≡ err.failures)
      → OnFalse b (OneMoreFailed err.failures err.new_failures) → (IsTrue err.steady → IsTrue b) → Says program lines err
  says-lines true lines err whole prefix unfailed failed goes = record {
    text = whole.0;
    said = whole.1;
    ends = inl (unfailed, whole.2);
    whole = λ s. (unfailed, whole.2);
  }
  says-lines false lines err whole prefix unfailed failed goes = record {
    text = prefix.0;
    said = prefix.1;
    ends = inr (failed, prefix.2);
    whole = λ s. absurd (false≢true (goes s));
  }

  -- lines of which not all were written, and others after them
  pub says-fewer : (lines others : List (List ℕ)) (err : Writing) → SaysPrefix program lines err.old err.new
      → OneMoreFailed err.failures err.new_failures → (IsTrue err.steady → ⊥) → Says program (lines ++ others) err
  says-fewer lines others err (text, said, prefix) failed fails = record {
    text = text ++ plain others;
    said = said-append lines others text (plain others) said (plain-said others);
    ends = inr (failed, prefix-of-more err.old err.new text (plain others) prefix);
    whole = λ s. absurd (fails s);
  }

  -- lines that were written whole, and then one more, whole or not
  pub says-more : (b : Bool) (lines : List (List ℕ)) (line said : List ℕ) (mid : Option (List ℕ)) (err : Writing)
      → SaysAll program lines err.old mid → IsSaid line said → OnTrue b (Appends mid err.new (said ++ 10 ∷ []))
      → OnFalse b (AppendsPrefix mid err.new (said ++ 10 ∷ [])) → OnTrue b (err.new_failures ≡ err.failures)
      → OnFalse b (OneMoreFailed err.failures err.new_failures) → (IsTrue err.steady → IsTrue b)
      → Says program (lines ++ line ∷ []) err
  says-more true lines line said mid err (text, are, first) is whole prefix unfailed failed goes =
      says-lines true (lines ++ line ∷ []) err (
        text ++ (said ++ 10 ∷ []),
        said-append lines (line ∷ []) text (said ++ 10 ∷ []) are (said, ([], is, refl, refl)),
        Appends-trans err.old mid err.new text (said ++ 10 ∷ []) first whole,
      ) tt unfailed tt goes
  says-more false lines line said mid err (text, are, first) is whole prefix unfailed failed goes =
      says-lines false (lines ++ line ∷ []) err tt (
        text ++ (said ++ 10 ∷ []),
        said-append lines (line ∷ []) text (said ++ 10 ∷ []) are (said, ([], is, refl, refl)),
        prefix-after err.old mid err.new text (said ++ 10 ∷ []) first prefix,
      ) tt failed goes

  pub says-prefix-of-one : (line said : List ℕ) (old new : Option (List ℕ)) → IsSaid line said
      → AppendsPrefix old new (said ++ 10 ∷ []) → SaysPrefix program (line ∷ []) old new
  says-prefix-of-one line said old new is prefix = (said ++ 10 ∷ [], (said, ([], is, refl, refl)), prefix)

  -- a line, or `out of memory` in its place
  pub is_said : (line : List ℕ) (result : Result (String Global) Want) → IfOk result (λ l. string_bytes l ≡ line)
      → IsSaid line (said_text program result)
  is_said line (Ok l) e = inl e
  is_said line (Err want) e = inr refl

  -- a line that wasn't written whole
  pub prefix-said : (b : Bool) (line said : List ℕ) (old new : Option (List ℕ)) → IsSaid line said
      → OnFalse b (AppendsPrefix old new (said ++ 10 ∷ [])) → OnFalse b (SaysPrefix program (line ∷ []) old new)
  prefix-said true line said old new is prefix = tt
  prefix-said false line said old new is prefix = says-prefix-of-one line said old new is prefix

  -- one line, written whole or not
  pub says_line : (b : Bool) (line said : List ℕ) (err : Writing) → IsSaid line said
      → OnTrue b (Appends err.old err.new (said ++ 10 ∷ [])) → OnFalse b (AppendsPrefix err.old err.new (said ++ 10 ∷ []))
      → OnTrue b (err.new_failures ≡ err.failures) → OnFalse b (OneMoreFailed err.failures err.new_failures)
      → (IsTrue err.steady → IsTrue b) → Says program (line ∷ []) err
  says_line true line said err is whole prefix unfailed failed goes = grind arith
  says_line false line said err is whole prefix unfailed failed goes = record {
    text = said ++ 10 ∷ [];
    said = (said, ([], is, refl, refl));
    ends = inr (failed, prefix);
    whole = λ s. absurd (false≢true (goes s));
  }

  -- the line of a capture that isn't whole
  pub prefix_of_ending : (b : Bool) (name : List ℕ) (summary : Summary) (said : List ℕ) (old new : Option (List ℕ))
      → is_whole summary.ending ≡ false
      → IsSaid (ending_line_text program name summary.ending) said → OnFalse b (AppendsPrefix old new (said ++ 10 ∷ []))
      → OnFalse b (SaysPrefix program (ending_lines program (name ∷ []) (summary ∷ [])) old new)
  prefix_of_ending b name summary said old new damaged is prefix =
      grind (arith, prefix-said b (ending_line_text program name summary.ending) said old new is prefix)

  -- without names, or without summaries, there are no lines
  pub no-names : {X : Type 0} (f : X → List ℕ) (names : List X) (summaries : List Summary) → length names ≡ 0
      → ending_lines program (map f names) summaries ≡ []
  no-names f [] summaries none = refl
  no-names f (name ∷ names) summaries none = absurd (omega (arith, none))

  pub no-summaries : {X : Type 0} (f : X → List ℕ) (names : List X) (summaries : List Summary) → length summaries ≡ 0
      → ending_lines program (map f names) summaries ≡ []
  no-summaries f [] summaries none = refl
  no-summaries f (name ∷ names) [] none = refl
  no-summaries f (name ∷ names) (summary ∷ summaries) none = absurd (omega (arith, none))

  -- the lines that are left: those of the first capture, and those of the others
  pub so_far-first : {X : Type 0} (f : X → List ℕ) (all : List (List ℕ)) (names more : List X) (name : X)
      (summaries others : List Summary) (summary : Summary)
      (old new : Option (List ℕ)) → names ≡ name ∷ more → summaries ≡ summary ∷ others
      → SaidSoFar all (ending_lines program (map f names) summaries) old new
      → SaidSoFar all (ending_lines program (f name ∷ []) (summary ∷ []) ++ ending_lines program (map f more) others) old new
  so_far-first f all names more name summaries others summary old new is are far = grind (arith, ending_lines-first)

-- a writer that wasn't used has the bytes that it had
pub leaves_written : {W : Type 0} (written : W → Option (List ℕ)) (at_once : Bool) (old new : W) (fault : SurveyFault)
    → Leaves at_once old new fault → Leaves at_once (written old) (written new) fault
leaves_written written true old new (File index fault) same = ap written same
leaves_written written true old new (Early newest) same = ap written same
leaves_written written true old new Memory same = ap written same
leaves_written written true old new Write same = tt
leaves_written written false old new (File index fault) same = ap written same
leaves_written written false old new (Early newest) same = ap written same
leaves_written written false old new Memory same = tt
leaves_written written false old new Write same = tt

-- WHAT FUNCTIONS ARE PROVED BY

pub ruleset for_say_endings = (says-lines)

pub ruleset for_say_lines = (is_said, says-fewer, says-more, false≢true)
