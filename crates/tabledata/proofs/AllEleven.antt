-- Nothing but the number of a refusal in an integer cell changed when 11 was split: with the numbers of before (`unsplit`), reading a cell is what
-- it was under 01. The idea: a text with a character that no cell may have has no elements anyway (`elements-text`), so that the test of its
-- characters decides nothing but the number, and that is 11 again.
use Prim.Native.Nat.{suc, ℕ}
use native.Mathlib.Omega.{arith}
use mathlib.Core.Bool.{Bool, cond, false, false≢true, true}
use mathlib.Core.List.{List, [], ◌∷◌}
use mathlib.Core.Path.{◌∙◌, ◌≡◌, ap, refl, sym}
use lib.IntN.{ℤ}
use lib.ListN.{length}
use borrow.Author.Tests.{ne_eqb}
use Rattle.number.specs.Number.{Fault, Outside, Unwritten, read_integer}
use Rattle.table.proofs.Laws.{fails-at, holds_at}
use Rattle.table.specs.Bytes.{words}
use Rattle.table.specs.Cell.{Cell, empty_is_null, show}
use Rattle.table.specs.Result.{Fails, Result, ◌>>=◌, bad, every, fails, good, refused_as}
use Rattle.table.specs.Shape.{Bits, Shape, Text, Truths, Whole, Width, last, shape}
use Rattle.table.specs.declared.Column.{Column}
use Rattle.tabledata.proofs.Elements.{elements-text}
use Rattle.tabledata.proofs.Laws.{OfIntegers, cell-fails, elements-fails}
use Rattle.tabledata.specs.AllEleven.{elements_all_eleven, integer_all_eleven, read_all_eleven, unsplit, words_all_eleven}
use Rattle.tabledata.specs.TableData.{all_text, cell_text, count_fits, fault_number, integer_word, read_text, text_cell, text_elements}

-- ---- the numbers: of all that a cell can be refused with, 18 alone was another

pub unsplit-other : (k : Shape) (n : ℕ) → (n ≡ 18 → ⊥) → unsplit k n ≡ n
unfolding unsplit
unsplit-other Truths n h = refl
unsplit-other Bits n h = refl
unsplit-other (Whole g v) n h = rw (ne_eqb n 18 h)
unsplit-other Text n h = refl

unsplit-range : (k : Shape) → OfIntegers k (unsplit k 18 ≡ 11)
unfolding unsplit
unsplit-range Truths = tt
unsplit-range Bits = tt
unsplit-range (Whole g v) = refl
unsplit-range Text = tt

unsplit-all : {A : Type 0} (k : Shape) (r : Result ℕ A) → Fails (λ (n : ℕ). n ≡ 18 → ⊥) r → r ≡ refused_as (unsplit k) r
unsplit-all k (good a) h = refl
unsplit-all k (bad n) (fails h) = ap bad (sym (unsplit-other k n h))

-- ---- elements

-- a text with another character has no elements
no_text : (k : Shape) (cs : List ℕ) → all_text cs ≡ false → (r : Result ℕ (List ℤ)) → text_elements k cs ≡ r → bad 11 ≡ refused_as (unsplit k) r
no_text k cs e (good es) q = absurd (false≢true (sym e ∙ holds_at (elements-text k cs) q))
no_text k cs e (bad n) q = ap bad (sym (fails-at (elements-fails {P = λ n. unsplit k n ≡ 11} (unsplit-other k 11 (λ e. omega arith)) k cs (unsplit-range k)) q))

every-as : {A B : Type 0} (u : ℕ → ℕ) (f h : A → Result ℕ B) → ((a : A) → f a ≡ refused_as u (h a)) → (l : List A) → every f l ≡ refused_as u (every h l)
unfolding every
every-as u f h e [] = refl
every-as {B = B} u f h e (a ∷ l) = rw (e a, every-as u f h e l) (go (h a) (every h l))
  where
    go : (r : Result ℕ B) (t : Result ℕ (List B)) → (refused_as u r >>= λ b. refused_as u t >>= λ bs. good (b ∷ bs)) ≡ refused_as u (r >>= λ b. t >>= λ bs. good (b ∷ bs))
    go (bad n) t = refl
    go (good b) (bad n) = refl
    go (good b) (good bs) = refl

integer-unsplit : (g : Bool) (v : Width) (w : List ℕ) → integer_all_eleven g (suc (last v)) w ≡ refused_as (unsplit (Whole g v)) (integer_word g (suc (last v)) w)
unfolding integer_all_eleven integer_word fault_number unsplit
integer-unsplit g v w = go (read_integer g (suc (last v)) w)
  where
    go : (r : Result Fault ℤ) → refused_as (λ f. 11) r ≡ refused_as (unsplit (Whole g v)) (refused_as fault_number r)
    go (good z) = refl
    go (bad Unwritten) = refl
    go (bad Outside) = refl

words-unsplit : (k : Shape) (cs : List ℕ) → all_text cs ≡ true → words_all_eleven k cs ≡ refused_as (unsplit k) (text_elements k cs)
unfolding words_all_eleven text_elements
words-unsplit Truths cs t = unsplit-all Truths _ (unfold text_elements in elements-fails (λ e. omega arith) Truths cs tt)
words-unsplit Bits cs t = unsplit-all Bits _ (unfold text_elements in elements-fails (λ e. omega arith) Bits cs tt)
words-unsplit (Whole g v) cs t = every-as (unsplit (Whole g v)) _ _ (integer-unsplit g v) (words cs)
words-unsplit Text cs t = rw t

pub elements-unsplit : (k : Shape) (cs : List ℕ) → elements_all_eleven k cs ≡ refused_as (unsplit k) (text_elements k cs)
unfolding elements_all_eleven
elements-unsplit k cs = go (all_text cs) refl
  where
    go : (b : Bool) → all_text cs ≡ b → cond b (words_all_eleven k cs) (bad 11) ≡ refused_as (unsplit k) (text_elements k cs)
    go true e = words-unsplit k cs e
    go false e = no_text k cs e (text_elements k cs) refl

-- ---- a cell

pub read-unsplit : (c : Column) (s : List ℕ) → read_all_eleven c s ≡ refused_as (unsplit (shape c.kind)) (read_text c s)
unfolding read_all_eleven read_text text_cell
read-unsplit c s = go (cell_text s) (cell-fails {P = λ n. unsplit k n ≡ n} (unsplit-other k 10 (λ e. omega arith)) s)
  where
    k : Shape
    k = shape c.kind

    counted : (es : List ℤ) (rest : List ℕ) (b : Bool) → cond {A = Result ℕ (Cell × List ℕ)} b (good (empty_is_null (show c es), rest)) (bad 12)
        ≡ refused_as (unsplit k) (cond b (good (empty_is_null (show c es))) (bad 12) >>= λ x. good (x, rest))
    counted es rest true = refl
    counted es rest false = ap bad (sym (unsplit-other k 12 (λ e. omega arith)))

    elements : (r : Result ℕ (List ℤ)) (rest : List ℕ)
        → (refused_as (unsplit k) r >>= λ es. cond {A = Result ℕ (Cell × List ℕ)} (count_fits c (length es)) (good (empty_is_null (show c es), rest)) (bad 12))
        ≡ refused_as (unsplit k) (r >>= (λ es. cond (count_fits c (length es)) (good (empty_is_null (show c es))) (bad 12)) >>= λ x. good (x, rest))
    elements (good es) rest = counted es rest (count_fits c (length es))
    elements (bad n) rest = refl

    go : (r : Result ℕ (List ℕ × List ℕ)) → Fails (λ (n : ℕ). unsplit k n ≡ n) r
        → (r >>= λ p. elements_all_eleven k p.0 >>= λ es. cond {A = Result ℕ (Cell × List ℕ)} (count_fits c (length es)) (good (empty_is_null (show c es), p.1)) (bad 12))
        ≡ refused_as (unsplit k) (r >>= λ p. (text_elements k p.0 >>= λ es. cond (count_fits c (length es)) (good (empty_is_null (show c es))) (bad 12)) >>= λ x. good (x, p.1))
    go (good p) h = rw (elements-unsplit k p.0) (elements (text_elements k p.0) p.1)
    go (bad n) (fails h) = ap bad (sym h)
