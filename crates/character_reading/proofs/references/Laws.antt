-- References: the number that digits spell, for `number_means`, and which of its ways `expand` goes.
use Prim.Native.Nat.{◌*◌, ◌+◌, ◌-◌, ◌<◌, ◌^◌, ◌≤◌, ℕ}
use native.Mathlib.Nat.{pow-le-pow_right, pow-succ'}
use native.Mathlib.Numerals.{add-one}
use native.Mathlib.Omega.{arith}
use mathlib.Core.Bool.{Bool, cond, false, true}
use mathlib.Core.List.{List, [], ◌∷◌}
use mathlib.Core.Path.{◌≡◌, refl, sym}
use lib.Dec.{lit≤}
use lib.ListN.{drop, get_or, length, length-drop, take}
use Rattle.std.proofs.lemmas.List.{take_all}
use borrow.Author.Tests.{le-ltb, lt-ltb, ne_eqb}
use Rattle.number.specs.Number.{Fault, Unwritten, digit, hexadigit, numeral, sized}
use Rattle.table.proofs.Bytes.{between-no}
use Rattle.table.proofs.Laws.{between-yes}
use Rattle.table.proofs.Places.{done, next1}
use Rattle.table.specs.Bytes.{after, between, same}
use Rattle.table.specs.Result.{Result, bad, good, or_else, refused_as}
use Rattle.tabledata.specs.TableData.{expanded, named, names, numeric}
use Rattle.character_reading.specs.References.{base_in, value_in}
use Rattle.text.specs.Clauses.{DigitIs, digit_in}

value_in_lem : (hex : Bool) (c d : ℕ) → DigitIs c d → value_in hex c ≡ digit_in (base_in hex) d
value_in_lem true c d e = e.hexa
value_in_lem false c d e = e.deci

-- "with 1 to 8 digits"
module _ (hex : Bool) (s : List ℕ) where
  pub numeric-not : (1 ≤ length s → length s ≤ 8 → ⊥) → numeric (value_in hex) (base_in hex) s ≡ bad 10
  unfolding numeric sized
  numeric-not h = rw (between-no 1 8 (length s) h)

  pub numeric-sized : 1 ≤ length s → length s ≤ 8 → numeric (value_in hex) (base_in hex) s ≡ refused_as (λ f. 10) (numeral (value_in hex) (base_in hex) 0 s)
  unfolding numeric sized
  numeric-sized h k = rw (between-yes 1 8 (length s) h k)

module _ (hex : Bool) (n : ℕ) (s : List ℕ) (i : ℕ) where
  pub numeral-end : length s ≤ i → numeral (value_in hex) (base_in hex) n (drop i s) ≡ good n
  unfolding numeral
  numeral-end h = rw (done s i h)

  pub numeral-more : (d : ℕ) → i < length s → DigitIs (get_or s i 0) d → d < base_in hex
      → numeral (value_in hex) (base_in hex) n (drop i s) ≡ numeral (value_in hex) (base_in hex) (n * base_in hex + d) (drop (i + 1) s)
  unfolding numeral digit_in
  numeral-more d h e k = rw (next1 s i h) (rw (value_in_lem hex (get_or s i 0) d e, lt-ltb d (base_in hex) k))

  pub numeral-bad : (d : ℕ) → i < length s → DigitIs (get_or s i 0) d → base_in hex ≤ d → numeral (value_in hex) (base_in hex) n (drop i s) ≡ bad Unwritten
  unfolding numeral digit_in
  numeral-bad d h e k = rw (next1 s i h) (rw (value_in_lem hex (get_or s i 0) d e, le-ltb d (base_in hex) k))

-- a digit more of at most eight still fits
pub grows : (hex : Bool) (n d k : ℕ) → n < 16 ^ k → d < 16 → n * base_in hex + d < 16 ^ (k + 1)
grows true n d k h e = rw (add-one, pow-succ') (omega arith)
grows false n d k h e = rw (add-one, pow-succ') (omega arith)

pub small-base : (hex : Bool) (d : ℕ) → d < base_in hex → d < 16
small-base true d h = h
small-base false d h = omega arith

pub one_later : {from i : ℕ} → from ≤ i → i + 1 - from ≡ i - from + 1
one_later h = omega arith

pub few-grow : (n k : ℕ) → n < 16 ^ k → k ≤ 7 → n < 268435456
few-grow n k h e = omega (arith, h, pow-le-pow_right {n = 16} (lit≤ tt) e)

-- what stands between `&` and `;`
both-bad : (b : Bool) → ◌≡◌ {A = Result Fault ℕ} (cond b (bad Unwritten) (bad Unwritten)) (bad Unwritten)
both-bad true = refl
both-bad false = refl

or-bad : (r : Result Fault ℕ) → or_else {E = ℕ} (refused_as (λ f. 10) r) (bad 10) ≡ refused_as (λ f. 10) r
or-bad (good n) = refl
or-bad (bad f) = refl

pub expand-name : (s : List ℕ) → (0 < length s → get_or s 0 0 ≡ 35 → ⊥) → expanded s ≡ named names s
unfolding expanded after
expand-name [] h = refl
expand-name (b ∷ s) h = rw (ne_eqb 35 b (λ e. h (omega arith) (sym e)))

-- what stands behind its first byte
pub behind_first : (s : List ℕ) → take (length s - 1) (drop 1 s) ≡ drop 1 s
behind_first s = take_all (length s - 1) (drop 1 s) (omega (arith, length-drop 1 s))

module _ (s t : List ℕ) (behind : t ≡ drop 1 s) (some : 0 < length s) (hash : get_or s 0 0 ≡ 35) where
  pub expand-hex : 0 < length t → get_or t 0 0 ≡ 120 → expanded s ≡ numeric hexadigit 16 (drop 1 t)
  unfolding expanded after named names same numeric sized numeral digit between
  expand-hex h x = rw behind (of s hash (rw behind at h) (rw behind at x))
    where
      of : (s : List ℕ) → get_or s 0 0 ≡ 35 → 0 < length (drop 1 s) → get_or (drop 1 s) 0 0 ≡ 120 → expanded s ≡ numeric hexadigit 16 (drop 1 (drop 1 s))
      of [] e h f = absurd (omega arith)
      of (a ∷ []) e h f = absurd (omega arith)
      of (a ∷ b ∷ s) e h f = rw (e, f, both-bad) (or-bad (cond (between 1 8 (length s)) (numeral hexadigit 16 0 s) (bad Unwritten)))

  pub expand-decimal : (0 < length t → get_or t 0 0 ≡ 120 → ⊥) → expanded s ≡ numeric digit 10 t
  unfolding expanded after named names same numeric sized between
  expand-decimal x = rw behind (of s some hash (λ h e. x (rw behind h) (rw behind e)))
    where
      of : (s : List ℕ) → 0 < length s → get_or s 0 0 ≡ 35 → (0 < length (drop 1 s) → get_or (drop 1 s) 0 0 ≡ 120 → ⊥) → expanded s ≡ numeric digit 10 (drop 1 s)
      of [] h e f = absurd (omega arith)
      of (a ∷ []) h e f = rw e
      of (a ∷ b ∷ s) h e f = rw (e, ne_eqb 120 b (λ g. f (omega arith) (sym g))) (or-bad (sized 8 digit 10 (b ∷ s)))
