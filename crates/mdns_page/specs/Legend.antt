-- The key of the timeline: what the strokes of its pictures mean.
use Rattle.std.specs.Prelude.{ℕ, ◌==◌, if◌then◌else◌, List, [], ◌∷◌, ◌++◌, codes}

-- an entry of the key: strokes, and what they mean
unfoldable pub key_entry : (strokes words : List ℕ) → List ℕ
key_entry strokes words =
    codes "<span><svg class=\"k\" viewBox=\"0 0 26 16\" preserveAspectRatio=\"none\" aria-hidden=\"true\">" ++ strokes
    ++ codes "</svg>" ++ words ++ codes "</span>"

-- what the strokes of lanes mean; nothing where there are no lanes
unfoldable pub lanes_key : (lanes : ℕ) → List ℕ
lanes_key lanes =
    if lanes == 0 then []
    else 32 ∷ key_entry (codes "<path class=\"n\" d=\"M0 11H26\"/><path class=\"t\" d=\"M4 6v5M9 6v5M20 6v5\"/>") (codes "heard, while recording")
    ++ 32 ∷ key_entry (codes "<path class=\"n\" d=\"M0 11H26\"/><path class=\"z\" d=\"M13 6v5\"/>") (codes "goodbye heard")

-- what all strokes mean
unfoldable pub key : (lanes : ℕ) → List ℕ
key lanes =
    codes "<p class=\"key\">" ++ key_entry (codes "<path class=\"b\" d=\"M0 9H26\"/>") (codes "live")
    ++ 32 ∷ key_entry
    (codes "<path class=\"b\" d=\"M0 9H20\"/><path class=\"m1\" d=\"M20 2V14\"/><path class=\"h1\" d=\"M20 2h.01\"/>")
    (codes "ended by goodbye")
    ++ 32 ∷ key_entry (codes "<path class=\"b\" d=\"M0 9H20\"/><path class=\"m2\" d=\"M20 2V14\"/>") (codes "expired: not heard again")
    ++ 32 ∷ key_entry
    (codes "<path class=\"b\" d=\"M0 9H20\"/><path class=\"m3\" d=\"M20 2V14\"/><path class=\"h3\" d=\"M20 2h.01\"/>")
    (codes "flushed by other data")
    ++ 32 ∷ key_entry (codes "<path class=\"s\" d=\"M0 9H26\"/>") (codes "its server (SRV) live")
    ++ lanes_key lanes ++ codes "</p>\n"
