-- One element by its value: its word spells itself, has no white space, and reads as the element.
use Prim.Native.Nat.{◌%◌, ◌*◌, ◌+◌, ◌-◌, ◌/◌, ◌<◌, ◌^◌, ◌≤◌, ℕ}
use mathlib.Core.Bool.{Bool, ◌||◌, cond, false, true}
use mathlib.Core.List.{List, [], ◌∷◌}
use mathlib.Core.Path.{◌∙◌, ◌≡◌, ap, refl}
use lib.Bits.{bit_or}
use lib.Dec.{eqb, lit≤, ltb}
use borrow.Author.Tests.{eqb-true, ltb-true}
use mir.Val.{bool_byte}
use lib.IntN.{pos, ℤ}
use lib.ListN.{get_or, length}
use Rattle.integer_reading.proofs.Spelling.{Itself, every_one, spells_one}
use Rattle.content_reading.specs.Letters.{truth_number}
use Rattle.moving.specs.Contents.{InText}
use Rattle.table.proofs.Bytes.{white-no}
use Rattle.table.proofs.Laws.{cond_cases, each_below}
use Rattle.table.proofs.Words.{words-one}
use Rattle.table.specs.Bytes.{is_white}
use Rattle.table.specs.Cell.{truth_byte}
use Rattle.table.specs.Result.{Result, bad, every, good}
use Rattle.table.specs.Shape.{Truths}
use Rattle.tabledata.specs.TableData.{text_elements, truth_letter, truth_word}

-- ---- truths

-- a letter of a boolean is no other: it has a number that the others do not have
module _ (c : ℕ) (h : truth_number c ≡ 3 → ⊥) where
  pub truth-itself : Itself c
  unfolding truth_number
  truth-itself = (λ e. h (ap truth_number e), λ e. h (ap truth_number e), λ e. h (ap truth_number e))

  pub truth-no-white : is_white c ≡ false
  unfolding truth_number
  truth-no-white = white-no c (λ e. h (ap truth_number e)) (λ e. h (ap truth_number e)) (λ e. h (ap truth_number e)) (λ e. h (ap truth_number e))

  pub truth-reads : truth_word (c ∷ []) ≡ good (pos (truth_number c))
  unfolding truth_number truth_word truth_letter
  truth-reads = by (eqb c 84 || eqb c 116 || eqb c 49) (eqb c 70 || eqb c 102 || eqb c 48) (eqb c 63) h
    where
      by : (t f u : Bool) → (◌≡◌ {A = ℕ} (cond t 1 (cond f 0 (cond u 2 3))) 3 → ⊥)
          → ◌≡◌ {A = Result ℕ ℤ} (cond t (good (pos 1)) (cond f (good (pos 0)) (cond u (good (pos 2)) (bad 11)))) (good (pos (cond t 1 (cond f 0 (cond u 2 3)))))
      by true f u k = refl
      by false true u k = refl
      by false false true k = refl
      by false false false k = absurd (k refl)

pub truth-in-text : (s : List ℕ) (at : ℕ) → at < length s → (truth_number (get_or s at 0) ≡ 3 → ⊥) → InText Truths s at (at + 1) (pos (truth_number (get_or s at 0)) ∷ [])
unfolding text_elements
truth-in-text s at l h = record {
  word = get_or s at 0 ∷ [];
  spells = spells_one s at l (truth-itself (get_or s at 0) h);
  elements = ap (every truth_word) (words-one (get_or s at 0 ∷ []) (lit≤ tt, (truth-no-white (get_or s at 0) h, tt))) ∙ every_one truth_word _ _ (truth-reads (get_or s at 0) h);
}

-- a letter's number is small
pub truth-small : (c : ℕ) → truth_number c ≤ 3
unfolding truth_number
truth-small c =
    cond_cases (λ (n : ℕ). n ≤ 3) (eqb c 84 || eqb c 116 || eqb c 49) 1 _ (λ _. lit≤ tt) (λ _.
    cond_cases (λ (n : ℕ). n ≤ 3) (eqb c 70 || eqb c 102 || eqb c 48) 0 _ (λ _. lit≤ tt) (λ _.
    cond_cases (λ (n : ℕ). n ≤ 3) (eqb c 63) 2 3 (λ _. lit≤ tt) (λ _. lit≤ tt)))

-- ---- a letter's number as a sum of tests, of every byte by computation

abbrev pub truths : ℕ → ℕ
truths c = bool_byte (eqb (bit_or c 32) 116) + bool_byte (eqb c 49)

abbrev pub lies : ℕ → ℕ
lies c = bool_byte (eqb (bit_or c 32) 102) + bool_byte (eqb c 48)

pub sum-small : (c : ℕ) → c < 256 → truths c * 2 + lies c * 3 + bool_byte (eqb c 63) < 4
sum-small c h = ltb-true _ _ (each_below (λ (c : ℕ). ltb (truths c * 2 + lies c * 3 + bool_byte (eqb c 63)) 4) 256 refl c h)

pub sum_is : (c : ℕ) → c < 256 → 3 - truths c * 2 - lies c * 3 - bool_byte (eqb c 63) ≡ truth_number c
unfolding truth_number
sum_is c h = eqb-true _ _ (each_below (λ (c : ℕ). eqb (3 - truths c * 2 - lies c * 3 - bool_byte (eqb c 63)) (truth_number c)) 256 refl c h)

-- and its byte
pub truth-byte : (n : ℕ) → n < 3 → 4150342 / 2 ^ (8 * n) % 256 ≡ truth_byte (pos n)
unfolding truth_byte
truth-byte n h = eqb-true _ _ (each_below (λ (n : ℕ). eqb (4150342 / 2 ^ (8 * n) % 256) (truth_byte (pos n))) 3 refl n h)
