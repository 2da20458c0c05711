-- A plan's steps: what a column of so many elements wants, by what its elements are; and the steps of a list, one by one. Cited by want_of, plan_of
-- and by whoever moves cells by a plan.
use Rattle.std.specs.Prelude.{None}
use mathlib.Core.Logic.{◌⊎◌, inl, inr}
use Prim.Native.Nat.{◌-◌, ◌<◌, ◌≤◌, suc, zero, ℕ}
use native.Mathlib.Nat.{le_refl}
use native.Mathlib.Omega.{arith}
use mathlib.Core.List.{List, [], ◌++◌, ◌∷◌, map}
use mathlib.Core.Path.{◌∙◌, ◌≡◌, ap, refl, subst, sym}
use lib.Dec.{lit≤}
use lib.ListN.{drop, get_or, length, replicate, set, take}
use lib.Seq.{take_all}
use Rattle.binary.specs.Binary.{bit_bytes, content_bytes}
use Rattle.number.specs.Clauses.{shape_as, width_of}
use Rattle.number.specs.declared.Elements.{Elements}
use Rattle.number.specs.declared.Integer.{Integer}
use Rattle.planning.specs.Plan.{most_bytes, no_step, one_integer, plan_of, step_for, step_of, want_of}
use Rattle.planning.specs.declared.Plan.{Plan}
use Rattle.planning.specs.declared.Step.{Step}
use Rattle.planning.specs.declared.Want.{Want}
use Rattle.rows.specs.Bounds.{Bounded, Within}
use Rattle.table.proofs.ColumnList.{listed_next}
use Rattle.table.proofs.Laws.{all_drop}
use Rattle.table.specs.All.{All}
use Rattle.table.specs.Cell.{bound, most_elements}
use Rattle.table.specs.ColumnList.{listed, no_column}
use Rattle.table.specs.Shape.{shape}
use Rattle.table.specs.declared.Column.{Column}
use Rattle.table.specs.declared.Columns.{Columns}
use Rattle.table.specs.declared.Kind.{Kind}
use Rattle.table.specs.declared.Len.{Len}

-- ---- one column

pub one-integer : (integer : Integer) → Want.Integer integer ≡ one_integer (width_of integer)
one-integer Integer.UnsignedByte = refl
one-integer Integer.Short = refl
one-integer Integer.Int = refl
one-integer Integer.Long = refl

pub want-by : (e r : Elements) (kind : Kind) (n : ℕ) → r ≡ e → shape_as r ≡ shape kind → want_of (shape_as e) n ≡ want_of (shape kind) n
want-by e r kind n g q = ap (λ k. want_of k n) (sym (ap shape_as g) ∙ q)

-- neither booleans nor characters have a step
pub wants-none : (r : Elements) (kind : Kind) (n : ℕ) → (r ≡ Elements.Truths) ⊎ (r ≡ Elements.Text) → shape_as r ≡ shape kind → None ≡ want_of (shape kind) n
unfolding want_of
wants-none r kind n (inl g) q = want-by Elements.Truths r kind n g q
wants-none r kind n (inr g) q = want-by Elements.Text r kind n g q

-- ---- the columns that are declared, each within its bounds

pub listed-bounded : (cols : Columns) (i : ℕ) → Within (listed cols) → i < cols.count → Bounded (get_or cols.list i no_column)
listed-bounded cols i a h =
    let d : All Bounded (drop i (listed cols)) = all_drop Bounded i (listed cols) a.each in
    (subst (All Bounded) (listed_next cols i h) d).0

-- ---- a list of columns: its steps so far, and none behind them

abbrev pub steps_to : List Column → ℕ → List Step
steps_to cs i = map step_of (take i cs) ++ replicate (64 - i) no_step

-- one more
set_more : (cs : List Column) (i m n : ℕ) (c : Column) → drop i cs ≡ c ∷ drop (suc i) cs → m ≡ suc n
    → set (map step_of (take i cs) ++ replicate m no_step) i (step_of c) ≡ map step_of (take (suc i) cs) ++ replicate n no_step
set_more [] zero m n c d e = absurd (none d)
  where
    none : {x : Column} {l : List Column} → [] ≡ x ∷ l → ⊥
    none q = absurd (omega (arith, ap length q))
set_more [] (suc i) m n c d e = absurd (omega (arith, ap length d))
set_more (b ∷ cs) zero m n c d e = rw e (ap (λ (x : Column). step_of x ∷ replicate n no_step) (sym (ap (λ (l : List Column). get_or l 0 no_column) d)))
set_more (b ∷ cs) (suc i) m n c d e = ap (λ (l : List Step). step_of b ∷ l) (set_more cs i m n c d e)

pub steps-more : (cs : List Column) (i : ℕ) (c : Column) (l : List Step) → i < 64 → drop i cs ≡ c ∷ drop (suc i) cs → l ≡ steps_to cs i → set l i (step_of c) ≡ steps_to cs (suc i)
steps-more cs i c l h d q = ap (λ (x : List Step). set x i (step_of c)) q ∙ set_more cs i (64 - i) (64 - suc i) c d (omega arith)

pub steps_all : (cs : List Column) (i : ℕ) → i ≡ length cs → steps_to cs i ≡ (plan_of cs).list
steps_all cs i h = rw h (ap (λ (l : List Column). map step_of l ++ replicate (64 - length cs) no_step) (take_all (length cs) cs (le_refl (length cs))))

abbrev pub planned : List Step → Plan
planned l = record { list = l }

-- ---- what the steps say

-- the step of a column of the list
pub plan-at : (cs : List Column) (i : ℕ) (c : Column) → drop i cs ≡ c ∷ drop (suc i) cs → get_or (plan_of cs).list i no_step ≡ step_of c
plan-at cs i c d = at cs i d (replicate (64 - length cs) no_step)
  where
    at : (cs : List Column) (i : ℕ) → drop i cs ≡ c ∷ drop (suc i) cs → (l : List Step) → get_or (map step_of cs ++ l) i no_step ≡ step_of c
    at [] zero d l = absurd (omega (arith, ap length d))
    at [] (suc i) d l = absurd (omega (arith, ap length d))
    at (b ∷ cs) zero d l = ap (λ (x : List Column). step_of (get_or x 0 no_column)) d
    at (b ∷ cs) (suc i) d l = at cs i d l

-- no cell has more bytes than 4,096 elements
content-most : (kind : Kind) (n : ℕ) → n ≤ most_elements → content_bytes (shape kind) n ≤ most_bytes
unfolding content_bytes bit_bytes
content-most Kind.Boolean n h = omega arith
content-most Kind.Bit n h = omega arith
content-most Kind.UnsignedByte n h = omega arith
content-most Kind.Short n h = omega arith
content-most Kind.Int n h = omega arith
content-most Kind.Long n h = omega arith
content-most Kind.Char n h = omega arith

pub step-most : (c : Column) → bound c.len ≤ most_elements → (step_of c).bytes ≤ most_bytes
unfolding step_for
step-most c h = most c.len h
  where
    most : (len : Len) → bound len ≤ most_elements → (step_for c.kind len c.null).bytes ≤ most_bytes
    most (Len.Fixed n) h = content-most c.kind n h
    most (Len.Bounded n) h = lit≤ tt
    most Len.Free h = lit≤ tt
