-- A property of the rows that each use of an argument keeps is kept by clap's parse without a fault.
use Rattle.std.proofs.Common.{arith, ◌≡◌, ◌++◌, subst, cond, fold, true, false, is_some, Bool, ℕ, zero, suc, List, [], ◌∷◌, Option, Some}
use Rattle.std.proofs.Common.{None, IfSome, rules}
use Rattle.std.specs.{Prelude.{find, length, ⊤}, Option.{option_map_or}}
use Rattle.clap.specs.Faults.{bundle_step_fault, flag_word_fault, flags_fault, level_fault, long_fault, option_fault, other_fault}
use Rattle.clap.specs.Faults.{positional_fault, react_fault, settle_fault, short_fault, step_fault, stray_fault, turn_fault, use_fault}
use Rattle.clap.specs.{Faults.{walk_fault, word_fault}, Kinds.{Kinds, or_else}, Simple.{Shape}, Walk.{Held, Names, Outcome, Row, Rule}}
use Rattle.clap.specs.Walk.{Step, Text, Waiting, Walk, after_flag, after_step, attached_value, bundle_met, bundle_step, flag_met, long_met}
use Rattle.clap.specs.Walk.{long_or_other, nothing_held, option_met, plain_word, reacted, rows_after, settled, short_met, short_or_plain}
use Rattle.clap.specs.Walk.{subcommand_or_other, takes_values, to_positional, used, used_by_id, walk, walk_from, walked, with_default}
use Rattle.clap.specs.Walk.{word_met}
use Rattle.clap.specs.declared.error.kind.ErrorKind.TheVariants as kind

-- each element has the property
abbrev pub Each : {X : Type 0} → (X → Type 0) → List X → Type 0
Each P [] = ⊤
Each P (x ∷ xs) = P x × Each P xs

pub each-append : {X : Type 0} (P : X → Type 0) (xs ys : List X) → Each P xs → Each P ys → Each P (xs ++ ys)
each-append P [] ys h k = k
each-append P (x ∷ xs) ys h k = (h.0, each-append P xs ys h.1 k)

pub each-find : {X : Type 0} (P : X → Type 0) (test : X → Bool) (xs : List X) → Each P xs → IfSome (find test xs) P
each-find P test [] h = tt
each-find P test (x ∷ xs) h = grind (arith, each-find P test xs h.1)

each-weaker : {X : Type 0} (P Q : X → Type 0) (xs : List X) → ((x : X) → P x → Q x) → Each P xs → Each Q xs
each-weaker P Q [] weaker h = tt
each-weaker P Q (x ∷ xs) weaker h = (weaker x h.0, each-weaker P Q xs weaker h.1)

pub split : (a b : Kinds) → or_else a b ≡ [] → (a ≡ []) × (b ≡ [])
split a b e = grind arith

-- ---- a property that each use of an argument keeps is kept by a walk without a fault

-- a use of the argument without a fault keeps the property
abbrev pub Keeps : (List Row → Type 0) → Bool → Rule → Type 0
Keeps P again a = (values : List Text) (rows : List Row) → use_fault again a values rows ≡ [] → P rows → P (used a values rows)

module _ (s : Shape) (P : List Row → Type 0) (all : Each (Keeps P s.args_override_self) s.rules) where
  by-id : (o : Option Rule) (values : List Text) (rows : List Row) → IfSome o (Keeps P s.args_override_self)
      → option_map_or (λ a. use_fault s.args_override_self a values rows) o [] ≡ [] → P rows → P (used_by_id o values rows)
  by-id o values rows keeps none p = grind arith

  in-settled : (h : Held) → settle_fault s.rules s.args_override_self h ≡ [] → P h.rows → P (settled s.rules h).rows
  in-settled h none p = grind (arith, by-id, each-find)

  in-reacted : (a : Rule) (values : List Text) (h : Held) → Keeps P s.args_override_self a
      → react_fault s.rules s.args_override_self a values h ≡ [] → P h.rows → P (reacted s.rules a values h).rows
  in-reacted a values h keeps none p = grind (arith, split, in-settled)

  in-option : (a : Rule) (v : Option Text) (h : Held) → Keeps P s.args_override_self a
      → option_fault s.rules s.args_override_self a v h ≡ [] → P h.rows → P (option_met s.rules a v h).0.rows
  in-option a None h keeps none p = in-settled h none p
  in-option a (Some v) h keeps none p = in-reacted a (v ∷ []) h keeps none p

  in-flag : (a : Rule) (v : Option Text) (h : Held) → Keeps P s.args_override_self a
      → cond (is_some v) (kind.TooManyValues ∷ []) (react_fault s.rules s.args_override_self a [] h) ≡ []
      → P h.rows → P (flag_met s.rules a v h).0.rows
  in-flag a None h keeps none p = in-reacted a [] h keeps none p
  in-flag a (Some v) h keeps none p = p

  in-long : (o : Option Rule) (v : Option Text) (h : Held) → IfSome o (Keeps P s.args_override_self)
      → long_fault s.rules s.args_override_self o v h ≡ [] → P h.rows → P (long_met s.rules o v h).0.rows
  in-long o v h keeps none p = grind (arith, in-option, in-flag)

  in-short : (o : Option Rule) (rest : Text) (h : Held) (then : Held → Held × Outcome) (faults : Held → Kinds)
      → ((k : Held) → faults k ≡ [] → P k.rows → P (then k).0.rows) → IfSome o (Keeps P s.args_override_self)
      → short_fault s.rules s.args_override_self o rest h faults ≡ [] → P h.rows → P (short_met s.rules o rest h then).0.rows
  in-short None rest h then faults more keeps none p = p
  in-short (Some a) rest h then faults more keeps none p = go (takes_values a) none
    where
      go : (b : Bool) → cond b (option_fault s.rules s.args_override_self a (attached_value rest) h)
          (or_else (react_fault s.rules s.args_override_self a [] h) (faults (reacted s.rules a [] h))) ≡ []
          → P (cond b (option_met s.rules a (attached_value rest) h) (then (reacted s.rules a [] h))).0.rows
      go true e = in-option a (attached_value rest) h keeps e p
      go false e = let parts = split _ _ e in more (reacted s.rules a [] h) parts.1 (in-reacted a [] h keeps parts.0 p)

  in-bundle-step : (then : Text → ℕ → Outcome → Held → Held × Outcome) (faults : Text → ℕ → Held → Kinds)
      → ((t : Text) (n : ℕ) (o : Outcome) (k : Held) → faults t n k ≡ [] → P k.rows → P (then t n o k).0.rows)
      → (o : Option ℕ) (flags : Text) (skip : ℕ) (so_far : Outcome) (h : Held)
      → bundle_step_fault s.rules s.args_override_self o flags skip h faults ≡ []
      → P h.rows → P (bundle_step s.rules o flags skip so_far h then).0.rows
  in-bundle-step then faults more o flags skip so_far h none p = grind (arith, in-short, each-find)

  in-bundle : (k : ℕ) (flags : Text) (skip : ℕ) (so_far : Outcome) (h : Held) → flags_fault s.rules s.args_override_self k flags skip h ≡ []
      → P h.rows → P (bundle_met s.rules k flags skip so_far h).0.rows
  unfolding flags_fault bundle_met
  in-bundle zero flags skip so_far h none p = p
  in-bundle (suc k) flags skip so_far h none p = grind (arith, in-bundle-step, in-bundle k)

  plain-rows : (waiting : Waiting) (word : Text) (h : Held) → h.rows ≡ (plain_word s.rules waiting word h).0.rows
  plain-rows waiting word h = grind arith

  flag-rows : (waiting : Waiting) (word : Text) (h : Held) (o : Outcome) → h.rows ≡ (after_flag s.rules waiting word h o).0.rows
  flag-rows waiting word h o = grind (arith, plain-rows)

  in-short-word : (waiting : Waiting) (word : Text) (o : Option Text) (h : Held)
      → option_map_or (λ flags. flags_fault s.rules s.args_override_self (length flags) flags h.skip (record h { skip = 0 })) o [] ≡ []
      → P h.rows → P (short_or_plain s.rules waiting word o h).0.rows
  in-short-word waiting word o h none p = grind (arith, plain-rows, flag-rows, in-bundle)

  in-flag-word : (waiting : Waiting) (word : Text) (o : Option (Text × Option Text)) (h : Held)
      → flag_word_fault s.rules s.args_override_self o word h ≡ [] → P h.rows → P (long_or_other s.rules waiting word o h).0.rows
  in-flag-word waiting word o h none p = grind (arith, in-short-word, flag-rows, in-long, each-find)

  in-other : (o : Option Text) (waiting : Waiting) (position : ℕ) (word : Text) (h : Held)
      → other_fault s o word h ≡ [] → P h.rows → P (subcommand_or_other s.rules o waiting position word h).0.rows
  in-other o waiting position word h none p = grind (arith, in-flag-word)

  in-word : (names : Names) (is_trailing : Bool) (waiting : Waiting) (position : ℕ) (word : Text) (h : Held)
      → word_fault s names is_trailing waiting word h ≡ []
      → P h.rows → P (word_met s.rules names is_trailing waiting position word h).0.rows
  in-word names is_trailing waiting position word h none p = grind (arith, in-other)

  in-positional : (o : Option Rule) (word : Text) (w : Walk) (h : Held)
      → option_map_or (λ a. positional_fault s.rules s.args_override_self a h) o (stray_fault s) ≡ []
      → P h.rows → P (to_positional s.rules o word w h).held.rows
  in-positional o word w h none p = grind (arith, in-settled)

  in-step : (word : Text) (w : Walk) (h : Held) (step : Step) → step_fault s w.position h step ≡ [] → P h.rows
      → P (after_step s.rules word w h step).held.rows
  in-step word w h step none p = grind (arith, in-positional)

  in-turn : (names : Names) (w : Walk) (word : Text) → turn_fault s names w word ≡ []
      → P w.held.rows → P (walked s.rules names w word).held.rows
  unfolding walked
  in-turn names w word none p = grind (arith, is_some, split, in-step, in-word)

  in-walk : (names : Names) (words : List Text) (w : Walk) → walk_fault s names w words ≡ [] → P w.held.rows
      → P (fold (walked s.rules names) w words).held.rows
  unfolding walk_fault
  in-walk names [] w none p = p
  in-walk names (word ∷ rest) w none p = grind (arith, split, in-turn, in-walk names rest)

no-default : (a : Rule) (rows : List Row) → a.defaults ≡ [] → rows ≡ with_default rows a
no-default a rows none = grind arith

-- the default of the argument, where it wasn't used, keeps it
abbrev pub KeepsDefault : (List Row → Type 0) → Rule → Type 0
KeepsDefault P a = (rows : List Row) → P rows → P (with_default rows a)

-- an argument without a default keeps all
pub undefaulted : (P : List Row → Type 0) (a : Rule) → a.defaults ≡ [] → KeepsDefault P a
undefaulted P a none rows p = subst P (no-default a rows none) p

in-defaults : (P : List Row → Type 0) (rules : List Rule) (rows : List Row) → Each (KeepsDefault P) rules → P rows
    → P (fold with_default rows rules)
in-defaults P [] rows keep p = p
in-defaults P (a ∷ rules) rows keep p = in-defaults P rules (with_default rows a) keep.1 (keep.0 rows p)

pub in-level : (s : Shape) (P : List Row → Type 0) (words : List Text)
    → Each (λ a. Keeps P s.args_override_self a × KeepsDefault P a) s.rules
    → level_fault s [] nothing_held words false [] ≡ [] → P [] → P (rows_after s.rules [] words)
in-level s P words both none p =
    let all = each-weaker _ (Keeps P s.args_override_self) s.rules (λ a keeps. keeps.0) both in
    let defaults = each-weaker _ (KeepsDefault P) s.rules (λ a keeps. keeps.1) both in
    let end = (walk s.rules [] nothing_held words).held in
    let walks = split (walk_fault s [] (walk_from nothing_held) words) _ none in
    let settles = split (settle_fault s.rules s.args_override_self end) _ walks.1 in
    in-defaults P s.rules (settled s.rules end).rows defaults
    (in-settled s P all end settles.0 (in-walk s P all [] words (walk_from nothing_held) walks.0 p))
