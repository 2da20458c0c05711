-- Line ends, as XML 1.0 has them in section 2.11.
use Rattle.std.specs.Prelude.{ℕ, Bool, cond, false, List, [], ◌∷◌, eqb}

-- does a text go on with 10, a line feed?
unfoldable pub feed_first : List ℕ → Bool
feed_first [] = false
feed_first (b ∷ s) = eqb b 10

-- what an XML processor makes of a whole text "on input, before parsing, by translating both the two-character sequence #xD #xA and any #xD
-- that is not followed by #xA to a single #xA character": a 13 before a 10 goes, any other 13 is a 10
unfoldable pub line_ends : List ℕ → List ℕ
line_ends [] = []
line_ends (b ∷ s) = cond (eqb b 13) (cond (feed_first s) (line_ends s) (10 ∷ line_ends s)) (b ∷ line_ends s)
