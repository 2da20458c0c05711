-- A chain of tests: the code makes it from the left, the definition from the right, and the next test is asked for only where those before hold.
use Prim.Native.Nat.{◌<◌, ◌≤◌, ℕ}
use mathlib.Core.Bool.{Bool, ◌&&◌, false, true}
use mathlib.Core.Path.{◌∙◌, ◌≡◌, ap, refl, sym}
use borrow.Author.Tests.{le-leb, lt-leb}
use lib.Dec.{leb}

four_tests : (a b c d : Bool) → ((a && b) && c) && d ≡ a && (b && (c && d))
four_tests false b c d = refl
four_tests true false c d = refl
four_tests true true false d = refl
four_tests true true true d = refl

pub chained : {v w r : Bool} (a b c d : Bool) → v ≡ a && b → w ≡ v && c → r ≡ w && d → r ≡ a && (b && (c && d))
chained a b c d f g h = h ∙ ap (λ (x : Bool). x && d) (g ∙ ap (λ (x : Bool). x && c) f) ∙ four_tests a b c d

pub asked : {u v : Bool} (d : Bool) → u ≡ true → v ≡ d → v ≡ u && d
asked d t e = e ∙ ap (λ (x : Bool). x && d) (sym t)

pub not-asked : {u v : Bool} (d : Bool) → u ≡ false → v ≡ u → v ≡ u && d
not-asked d t e = e ∙ t ∙ ap (λ (x : Bool). x && d) (sym t)

-- the same where the test before is a bound on a sum
pub within : {v : Bool} {n : ℕ} (sum most : ℕ) (d : Bool) → n ≡ sum → n ≤ most → v ≡ d → v ≡ leb sum most && d
within {v} {n} sum most d s h e = asked d (ap (λ (x : ℕ). leb x most) (sym s) ∙ le-leb n most h) e

pub beyond : {v : Bool} {n : ℕ} (sum most : ℕ) (d : Bool) → n ≡ sum → most < n → v ≡ leb n most → v ≡ leb sum most && d
beyond {v} {n} sum most d s h e = not-asked d (ap (λ (x : ℕ). leb x most) (sym s) ∙ lt-leb n most h) (e ∙ ap (λ (x : ℕ). leb x most) s)
