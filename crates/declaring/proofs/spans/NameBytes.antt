-- The bytes of a name, and of a class, from facts that `omega` proves where an arm of a `match` returns.
use Prim.Native.Nat.{◌<◌, ◌≤◌, ℕ}
use native.Mathlib.Omega.{arith}
use mathlib.Core.Bool.{Bool, ◌||◌, false, not, true}
use mathlib.Core.Logic.{◌⊎◌, inl, inr}
use mathlib.Core.Path.{◌≡◌, ap, refl, sym}
use lib.Dec.{eqb}
use borrow.Author.Tests.{eq-eqb, eqb-false, ne_eqb}
use Rattle.declaring.specs.Readers.{in_class}
use Rattle.fields.specs.Fields.{is_name_byte}
use Rattle.declaring.specs.declared.spans.Class.{Class}
use Rattle.declaring.specs.declared.spans.Class.TheVariants as of-class
use Rattle.table.proofs.Bytes.{between-no}
use Rattle.table.proofs.Laws.{between-yes}

-- ---- the bytes of a name

pub name-upper : (b : ℕ) → 65 ≤ b → b < 91 → is_name_byte b ≡ true
unfolding is_name_byte
name-upper b h k = rw (between-yes 65 90 b h (omega arith))

pub name-lower : (b : ℕ) → 97 ≤ b → b < 123 → is_name_byte b ≡ true
unfolding is_name_byte
name-lower b h k = rw (between-no 65 90 b (omega arith), between-yes 97 122 b h (omega arith))

pub name-digit : (b : ℕ) → 48 ≤ b → b < 58 → is_name_byte b ≡ true
unfolding is_name_byte
name-digit b h k = rw (between-no 65 90 b (omega arith), between-no 97 122 b (omega arith), between-yes 48 57 b h (omega arith))

pub name-mark : (b : ℕ) → 45 ≤ b → b < 47 → is_name_byte b ≡ true
unfolding is_name_byte
name-mark b h k = rw (between-no 65 90 b (omega arith), between-no 97 122 b (omega arith), between-no 48 57 b (omega arith)) (go (eqb b 45) refl)
  where
    go : (t : Bool) → eqb b 45 ≡ t → (eqb b 45 || eqb b 95 || eqb b 58 || eqb b 46) ≡ true
    go true e = rw e
    go false e = rw (e, ne_eqb b 95 (λ f. omega arith), ne_eqb b 58 (λ f. omega arith), eq-eqb b 46 (omega (arith, eqb-false b 45 e)))

pub name-no : (b : ℕ) → (b ≡ 58 ⊎ b ≡ 95 → ⊥) → (65 ≤ b → b ≤ 90 → ⊥) → (97 ≤ b → b ≤ 122 → ⊥) → (48 ≤ b → b ≤ 57 → ⊥) → (45 ≤ b → b ≤ 46 → ⊥)
    → is_name_byte b ≡ false
unfolding is_name_byte
name-no b k upper lower digit mark =
    rw (between-no 65 90 b upper, between-no 97 122 b lower, between-no 48 57 b digit, ne_eqb b 45 (λ e. mark (omega arith) (omega arith)))
    (rw (ne_eqb b 95 (λ e. k (inr e)), ne_eqb b 58 (λ e. k (inl e)), ne_eqb b 46 (λ e. mark (omega arith) (omega arith))))

-- ---- by the cases of an enum

pub class-is : (class of : Class) (b : ℕ) → class ≡ of → in_class of b ≡ in_class class b
class-is class of b e = sym (ap (λ (x : Class). in_class x b) e)

pub quote-no : (q b : ℕ) → b ≡ q → false ≡ in_class (of-class.Quoted q) b
quote-no q b e = rw (eq-eqb b q e)

pub quote-other : (q b : ℕ) → (b ≡ q → ⊥) → not (eqb b 60) ≡ in_class (of-class.Quoted q) b
quote-other q b n = rw (ne_eqb b q n)
