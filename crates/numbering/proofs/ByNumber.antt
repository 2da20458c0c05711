-- Numbers that name no kind of rows: by cases on the definitions.
use Rattle.std.specs.Prelude.{None}
use Prim.Native.Nat.{suc, zero, ℕ}
use mathlib.Core.Path.{◌≡◌, refl}
use Rattle.numbering.specs.Numbering.{binary_of, rows_of}

pub no_rows : (n : ℕ) → (n ≡ 0 → ⊥) → (n ≡ 1 → ⊥) → (n ≡ 2 → ⊥) → rows_of n ≡ None
unfolding rows_of
no_rows zero a b c = absurd (a refl)
no_rows (suc zero) a b c = absurd (b refl)
no_rows (suc (suc zero)) a b c = absurd (c refl)
no_rows (suc (suc (suc n))) a b c = refl

pub no-binary : (n : ℕ) → (n ≡ 1 → ⊥) → (n ≡ 2 → ⊥) → binary_of n ≡ None
unfolding binary_of
no-binary zero a b = refl
no-binary (suc zero) a b = absurd (a refl)
no-binary (suc (suc zero)) a b = absurd (b refl)
no-binary (suc (suc (suc n))) a b = refl
