-- The final dot of a word of `--about`. Absolute names end in a dot (RFC 1035, section 5.1), which no output writes.
use Rattle.std.specs.Prelude.{◌==◌, ◌&&◌, ◌∷◌, Bool, false, not, List, [], Option, Some, None, if◌then◌else◌, option_and_then, option_map, option_to_list}
use Rattle.std.specs.List.{flat_map, fold}
use Rattle.clap.specs.Words.{Text}

-- what stands before the dot that ends a text; none where no dot does
abbrev pub before_dot : Text → Option Text
before_dot [] = None
before_dot (byte ∷ []) = if byte == 46 then Some [] else None
before_dot (byte ∷ next ∷ rest) = option_map (λ front. byte ∷ front) (before_dot (next ∷ rest))

-- the text escapes what follows it: a backslash ends it that no other escapes
abbrev pub escapes_next : Text → Bool
escapes_next = fold (λ escapes byte. not escapes && byte == 92) false

-- the text, unless it is empty or escapes the dot behind it
abbrev pub unless_escaping : Text → Option Text
unless_escaping [] = None
unless_escaping (byte ∷ rest) = if escapes_next (byte ∷ rest) then None else Some (byte ∷ rest)

-- a word without its final dot, which isn't escaped, and where more stands before it
abbrev pub without_final_dot : Text → Option Text
without_final_dot word = option_and_then unless_escaping (before_dot word)

-- each word, and right behind it the same without its final dot
abbrev pub asked_words : List Text → List Text
asked_words = flat_map (λ word. word ∷ option_to_list (without_final_dot word))
