-- Base64 (RFC 4648): which texts spell which bytes.
use Rattle.std.specs.Prelude.{◌*◌, ◌+◌, ◌<◌, ℕ, false, true, List, [], ◌∷◌, ◌≡◌}
use Rattle.table.specs.Bytes.{byte, is_white}

-- RFC 4648, table 1: a letter of the alphabet and its value
pub data Letter : ℕ → ℕ → Type 0 where
  -- `A` to `Z`
  letter-capital : {d : ℕ} → d < 26 → Letter (byte "A" + d) d
  -- `a` to `z`
  letter-small : {d : ℕ} → d < 26 → Letter (byte "a" + d) (26 + d)
  -- `0` to `9`
  letter-figure : {d : ℕ} → d < 10 → Letter (byte "0" + d) (52 + d)
  -- `+` and `/`
  letter-plus : Letter (byte "+") 62
  letter-slash : Letter (byte "/") 63

-- "White space is skipped anywhere.": a text, and its other characters
pub data Sparse : List ℕ → List ℕ → Type 0 where
  -- nothing
  sparse-end : Sparse [] []
  -- "White space is skipped"
  sparse-white : {b : ℕ} {s t : List ℕ} → is_white b ≡ true → Sparse s t → Sparse (b ∷ s) t
  -- any other character is kept
  sparse-then : {b : ℕ} {s t : List ℕ} → is_white b ≡ false → Sparse s t → Sparse (b ∷ s) (b ∷ t)

-- "The rest is a multiple of four characters, `=` only as the last one or two, unused bits 0."
pub data Fours : List ℕ → List ℕ → Type 0 where
  -- zero is "a multiple of four"
  fours-end : Fours [] []
  -- RFC 4648, section 4: "a 24-bit input group is formed by concatenating 3 8-bit input groups. These 24 bits are then treated as 4
  -- concatenated 6-bit groups"
  fours-then : {a b c d v w x y p q r : ℕ} {s t : List ℕ} → Letter a v → Letter b w → Letter c x → Letter d y → p < 256 → q < 256 → r < 256
      → ((v * 64 + w) * 64 + x) * 64 + y ≡ (p * 256 + q) * 256 + r → Fours s t → Fours (a ∷ b ∷ c ∷ d ∷ s) (p ∷ q ∷ r ∷ t)
  -- "`=` only as the last one", "unused bits 0": 16 bits and 2 unused ones
  fours-two : {a b c v w x p q : ℕ} → Letter a v → Letter b w → Letter c x → p < 256 → q < 256 → (v * 64 + w) * 64 + x ≡ (p * 256 + q) * 4
      → Fours (a ∷ b ∷ c ∷ byte "=" ∷ []) (p ∷ q ∷ [])
  -- "or two", "unused bits 0": 8 bits and 4 unused ones
  fours-one : {a b v w p : ℕ} → Letter a v → Letter b w → p < 256 → v * 64 + w ≡ p * 16 → Fours (a ∷ b ∷ byte "=" ∷ byte "=" ∷ []) (p ∷ [])

-- a text and the bytes that it spells
pub data Base64Text : List ℕ → List ℕ → Type 0 where
  -- "White space is skipped anywhere. The rest is a multiple of four characters"
  base64-text : {s t b : List ℕ} → Sparse s t → Fours t b → Base64Text s b
