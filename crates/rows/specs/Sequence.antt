-- A stream over any row reader: row after row from the front, to the end or to the first refusal.
use Rattle.std.specs.Prelude.{suc, zero, ℕ, Bool, cond, List, [], ◌∷◌, length}
use Rattle.table.specs.Outcome.{Refusal, at}
use Rattle.table.specs.Result.{Result, bad, good}

-- what a stream says: what each row gives, and how it ends
pub data Sequence (A : Type 0) : Type 0 where
  finished : Sequence A
  stopped : Refusal → Sequence A
  row : A → Sequence A → Sequence A

module _ {A : Type 0} where
  -- a row, and then the others
  unfoldable pub row_then : Result Refusal (A × List ℕ) → (List ℕ → Sequence A) → Sequence A
  row_then (good p) more = row p.0 (more p.1)
  row_then (bad e) more = stopped e

  -- row after row. The first number bounds the turns, one for each row and one for the end, and is no rule of 01: a stream that outlasted it
  -- would be refused
  unfoldable pub sequence_f : ℕ → (List ℕ → Bool) → (List ℕ → Result Refusal (A × List ℕ)) → List ℕ → Sequence A
  sequence_f zero ended next s = stopped (at 0 8)
  sequence_f (suc f) ended next s = cond (ended s) finished (row_then (next s) (λ rest. sequence_f f ended next rest))

  -- each row takes at least a byte, so that no stream outlasts this bound
  unfoldable pub sequence : (List ℕ → Bool) → (List ℕ → Result Refusal (A × List ℕ)) → List ℕ → Sequence A
  sequence ended next s = sequence_f (suc (length s)) ended next s

  -- what each row of a stream gives, in order
  unfoldable pub in_order : Sequence A → List A
  in_order finished = []
  in_order (stopped e) = []
  in_order (row x more) = x ∷ in_order more
