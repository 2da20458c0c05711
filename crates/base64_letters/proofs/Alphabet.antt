-- Letters and their values: the table's rule, by one computed test over the whole table; what a value says of a character; and the letters of
-- values, by the ranges that the code decides.
use Prim.Native.Nat.{◌+◌, ◌-◌, ◌<◌, ◌≤◌, ℕ}
use native.Mathlib.Omega.{arith}
use mathlib.Core.Bool.{false, true}
use mathlib.Core.List.{List}
use mathlib.Core.Path.{◌∙◌, ◌≡◌, ap, refl, sym}
use lib.Dec.{eqb}
use lib.ListN.{get_or}
use borrow.Author.Tests.{eqb-true, le-ltb, lt-ltb}
use Rattle.base64_rules.proofs.Laws.{LetterOf, Only, letter-not-pad, letter-not-white, only, sextet-7, sextet-is}
use Rattle.base64_rules.specs.Base64.{is_pad, letter, sextet}
use Rattle.base64_letters.specs.Letters.{TableIs, letter_value, value_or_none}
use Rattle.table.proofs.Laws.{all_below, each_below, holds_at}
use Rattle.table.specs.Bytes.{is_white}
use Rattle.table.specs.Result.{Holds, Result, bad, good, holds}

-- ---- the table

-- THE TABLE'S RULE, at each entry, from one test over the whole table
pub table_is : (values : List ℕ) → all_below (λ (c : ℕ). eqb (get_or values c 0) (letter_value c)) 128 ≡ true → TableIs values
table_is values h c k = eqb-true _ _ (each_below (λ (b : ℕ). eqb (get_or values b 0) (letter_value b)) 128 h c k)

-- ---- a byte's value says whether it is a letter

abbrev Said : ℕ → Result ℕ ℕ → Type 0
Said c r = (value_or_none r ≤ 16777216) × (value_or_none r < 16777216 → value_or_none r < 64) × (value_or_none r < 64 → r ≡ good (value_or_none r)) × (64 ≤ value_or_none r → r ≡ bad 7)

said : (c : ℕ) → Said c (sextet c)
said c = go (sextet c) (sextet-is c) (sextet-7 c)
  where
    go : (r : Result ℕ ℕ) → Holds (LetterOf c) r → Only 7 r → Said c r
    go (good v) (holds h) o = (let l = h.small in omega arith, λ _. h.small, λ _. refl, λ k. let l = h.small in absurd (omega arith))
    go (bad n) h only = (omega arith, λ k. absurd (omega arith), λ k. absurd (omega arith), λ _. refl)

pub none-or-small : (c : ℕ) → letter_value c < 16777216 → letter_value c < 64
unfolding letter_value
none-or-small c = (said c).1

pub value-most : (c v : ℕ) → v ≡ letter_value c → v ≤ 16777216
unfolding letter_value
value-most c v e = let h = (said c).0 in omega arith

pub is-letter : (c v : ℕ) → v ≡ letter_value c → v < 64 → sextet c ≡ good v
unfolding letter_value
is-letter c v e h = (said c).2 (omega arith) ∙ ap good (sym e)

pub no-letter : (c v : ℕ) → v ≡ letter_value c → 64 ≤ v → sextet c ≡ bad 7
unfolding letter_value
no-letter c v e h = (said c).3 (omega arith)

-- a letter is neither white space nor `=`
module _ (c : ℕ) (h : letter_value c < 64) where
  its-letter : letter (letter_value c) ≡ c
  its-letter = (holds_at (sextet-is c) (is-letter c (letter_value c) refl h)).letter-is

  pub black : is_white c ≡ false
  black = rw its-letter at (letter-not-white (letter_value c) h)

  pub no-pad : is_pad c ≡ false
  no-pad = rw its-letter at (letter-not-pad (letter_value c) h)

-- ---- letters of values

pub letter-upper : (v : ℕ) → v < 26 → letter v ≡ v + 65
unfolding letter
letter-upper v h = rw (lt-ltb v 26 h)

pub letter-lower : (v : ℕ) → 26 ≤ v → v < 52 → letter v ≡ v + 71
unfolding letter
letter-lower v h k = rw (le-ltb v 26 h, lt-ltb v 52 k)

pub letter-digit : (v : ℕ) → 52 ≤ v → v < 62 → letter v ≡ v - 4
unfolding letter
letter-digit v h k = rw (le-ltb v 26 (omega arith), le-ltb v 52 h, lt-ltb v 62 k)
