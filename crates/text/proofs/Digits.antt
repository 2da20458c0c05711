-- What a byte is worth as a digit of base 16 and of base 10: the three ranges of digit_value, and what lies around them.
use Prim.Native.Nat.{◌-◌, ◌<◌, ◌≤◌, ℕ}
use native.Mathlib.Omega.{arith}
use mathlib.Core.Path.{◌∙◌, ◌≡◌}
use lib.Dec.{lit≤}
use borrow.Author.Tests.{le-ltb, lt-ltb}
use Rattle.number.specs.Number.{Unwritten, digit, hexadigit}
use Rattle.table.proofs.Bytes.{between-no}
use Rattle.table.proofs.Laws.{between-yes}
use Rattle.table.specs.Result.{bad, good}
use Rattle.text.specs.Clauses.{DigitIs, digit_in}

pub digit_low : (c : ℕ) → 48 ≤ c → c ≤ 57 → DigitIs c (c - 48)
unfolding digit hexadigit digit_in
digit_low c h k = record {
  hexa = rw (between-yes 48 57 c h k, lt-ltb (c - 48) 16 (omega arith));
  deci = rw (between-yes 48 57 c h k, lt-ltb (c - 48) 10 (omega arith));
  low = omega arith;
}

pub digit-upper : (c : ℕ) → 65 ≤ c → c ≤ 70 → DigitIs c (c - 55)
unfolding digit hexadigit digit_in
digit-upper c h k = record {
  hexa = rw (between-no 48 57 c (omega arith), between-yes 65 70 c h k, lt-ltb (c - 55) 16 (omega arith));
  deci = rw (between-no 48 57 c (omega arith), le-ltb (c - 55) 10 (omega arith));
  low = omega arith;
}

pub digit-lower : (c : ℕ) → 97 ≤ c → c ≤ 102 → DigitIs c (c - 87)
unfolding digit hexadigit digit_in
digit-lower c h k = record {
  hexa = rw (between-no 48 57 c (omega arith), between-no 65 70 c (omega arith), between-yes 97 102 c h k, lt-ltb (c - 87) 16 (omega arith));
  deci = rw (between-no 48 57 c (omega arith), le-ltb (c - 87) 10 (omega arith));
  low = omega arith;
}

pub digit-none : (c : ℕ) → (48 ≤ c → c ≤ 57 → ⊥) → (65 ≤ c → c ≤ 70 → ⊥) → (97 ≤ c → c ≤ 102 → ⊥) → DigitIs c 16
unfolding digit hexadigit digit_in
digit-none c x y z = record {
  hexa = rw (between-no 48 57 c x, between-no 65 70 c y, between-no 97 102 c z);
  deci = rw (between-no 48 57 c x);
  low = lit≤ tt;
}

-- a hexadigit by its value
pub hexadigit-is : {c d : ℕ} → DigitIs c d → d < 16 → hexadigit c ≡ good d
unfolding digit_in
hexadigit-is {c} {d} w h = w.hexa ∙ rw (lt-ltb d 16 h)

pub hexadigit-no : {c d : ℕ} → DigitIs c d → 16 ≤ d → hexadigit c ≡ bad Unwritten
unfolding digit_in
hexadigit-no {c} {d} w h = w.hexa ∙ rw (le-ltb d 16 h)
