-- Laws of a stream over any row reader whose rows take at least a byte: the bound on rows never ends it, so it is its first row and what the
-- rest says; what holds of each row, or of each refusal, holds of the stream; two texts whose rows are read alike say the same.
use Prim.Native.Nat.{◌<◌, ◌≤◌, suc, zero, ℕ}
use native.Mathlib.Nat.{not-suc-le-zero}
use native.Mathlib.Omega.{arith}
use mathlib.Core.Bool.{Bool, cond}
use mathlib.Core.List.{List}
use mathlib.Core.Path.{◌∙◌, ◌≡◌, ap, refl, sym}
use lib.ListN.{length}
use Rattle.rows.specs.Sequence.{Sequence, finished, row, row_then, sequence, sequence_f, stopped}
use Rattle.table.proofs.Laws.{cond_cases, holds-weaken}
use Rattle.table.specs.Outcome.{Refusal, at}
use Rattle.table.specs.Result.{Fails, Holds, Result, ◌>>=◌, bad, fails, good, holds, refuses}

module _ {A : Type 0} where
  -- every row of a stream has the property
  abbrev pub AllRows : (A → Type 0) → Sequence A → Type 0
  AllRows P finished = Unit {0}
  AllRows P (stopped e) = Unit {0}
  AllRows P (row x more) = P x × AllRows P more

  pub rows-weaken : (P Q : A → Type 0) → ((x : A) → P x → Q x) → (t : Sequence A) → AllRows P t → AllRows Q t
  rows-weaken P Q f finished h = tt
  rows-weaken P Q f (stopped e) h = tt
  rows-weaken P Q f (row x t) h = (f x h.0, rows-weaken P Q f t h.1)

  -- the refusal that a stream stops with has the property
  abbrev pub Stops : (Refusal → Type 0) → Sequence A → Type 0
  Stops P finished = Unit {0}
  Stops P (stopped e) = P e
  Stops P (row x more) = Stops P more

  then_same : (r : Result Refusal (A × List ℕ)) (m n : List ℕ → Sequence A) → Holds (λ (p : A × List ℕ). m p.1 ≡ n p.1) r → row_then r m ≡ row_then r n
  unfolding row_then
  then_same r m n (holds {a = p} h) = ap (row p.0) h
  then_same r m n refuses = refl

  then-all : (P : A → Type 0) (r : Result Refusal (A × List ℕ)) (more : List ℕ → Sequence A) → Holds (λ (p : A × List ℕ). P p.0 × AllRows P (more p.1)) r → AllRows P (row_then r more)
  unfolding row_then
  then-all P r more (holds h) = h
  then-all P r more refuses = tt

  then-stops : (P : Refusal → Type 0) (r : Result Refusal (A × List ℕ)) (more : List ℕ → Sequence A) → Fails P r → ((t : List ℕ) → Stops P (more t)) → Stops P (row_then r more)
  unfolding row_then
  then-stops P (good p) more f h = h p.1
  then-stops P (bad e) more (fails h) g = h

  module _ (ended : List ℕ → Bool) (next : List ℕ → Result Refusal (A × List ℕ)) where
    module _ (less : (s : List ℕ) → Holds (λ (p : A × List ℕ). length p.1 < length s) (next s)) where
      any_fuel : (f g : ℕ) (s : List ℕ) → length s < f → length s < g → sequence_f f ended next s ≡ sequence_f g ended next s
      unfolding sequence_f
      any_fuel zero g s a b = absurd (not-suc-le-zero a)
      any_fuel (suc f) zero s a b = absurd (not-suc-le-zero b)
      any_fuel (suc f) (suc g) s a b =
          ap (cond (ended s) finished)
          (then_same (next s) (λ rest. sequence_f f ended next rest) (λ rest. sequence_f g ended next rest)
          (holds-weaken (less s) (λ p h. any_fuel f g p.1 (omega arith) (omega arith))))

      pub sequence-fuel : (f : ℕ) (s : List ℕ) → length s < f → sequence_f f ended next s ≡ sequence ended next s
      unfolding sequence
      sequence-fuel f s h = any_fuel f (suc (length s)) s h (omega arith)

      pub sequence-step : (s : List ℕ) → sequence ended next s ≡ cond (ended s) finished (row_then (next s) (sequence ended next))
      unfolding sequence sequence_f
      sequence-step s =
          ap (cond (ended s) finished)
          (then_same (next s) (λ rest. sequence_f (length s) ended next rest) (sequence ended next)
          (holds-weaken (less s) (λ p h. sequence-fuel (length s) p.1 h)))

    -- a text and what g makes of it, whose rows are read alike: they say the same
    module _ (g : List ℕ → List ℕ) (end-alike : (s : List ℕ) → ended (g s) ≡ ended s)
        (row-alike : (s : List ℕ) → next (g s) ≡ (next s >>= λ p. good (p.0, g p.1))) where
      then-alike : (r : Result Refusal (A × List ℕ)) (more : List ℕ → Sequence A) → ((s : List ℕ) → more (g s) ≡ more s)
          → row_then (r >>= λ p. good (p.0, g p.1)) more ≡ row_then r more
      unfolding row_then
      then-alike (good p) more h = ap (row p.0) (h p.1)
      then-alike (bad e) more h = refl

      alike-within : (f : ℕ) (s : List ℕ) → sequence_f f ended next (g s) ≡ sequence_f f ended next s
      unfolding sequence_f
      alike-within zero s = refl
      alike-within (suc f) s =
          rw (end-alike s, row-alike s)
          (ap (cond (ended s) finished) (then-alike (next s) (λ rest. sequence_f f ended next rest) (alike-within f)))

      pub sequence-alike : ((s : List ℕ) → Holds (λ (p : A × List ℕ). length p.1 < length s) (next s)) → ((s : List ℕ) → length (g s) ≤ length s)
          → (s : List ℕ) → sequence ended next (g s) ≡ sequence ended next s
      sequence-alike less shorter s =
          sym (sequence-fuel less (suc (length s)) (g s) (omega (arith, shorter s)))
          ∙ (unfold sequence in alike-within (suc (length s)) s)

    module _ (P : A → Type 0) (In : List ℕ → Type 0) (each : (s : List ℕ) → In s → Holds (λ (p : A × List ℕ). P p.0 × In p.1) (next s)) where
      all-within : (f : ℕ) (s : List ℕ) → In s → AllRows P (sequence_f f ended next s)
      unfolding sequence_f
      all-within zero s i = tt
      all-within (suc f) s i =
          cond_cases (AllRows P) (ended s) finished (row_then (next s) (λ rest. sequence_f f ended next rest)) (λ _. tt)
          (λ _. then-all P (next s) (λ rest. sequence_f f ended next rest) (holds-weaken (each s i) (λ p h. (h.0, all-within f p.1 h.1))))

      pub sequence-all : (s : List ℕ) → In s → AllRows P (sequence ended next s)
      unfolding sequence
      sequence-all s = all-within (suc (length s)) s

    module _ (P : Refusal → Type 0) (outlasted : P (at 0 8)) (each : (s : List ℕ) → Fails P (next s)) where
      stops-within : (f : ℕ) (s : List ℕ) → Stops P (sequence_f f ended next s)
      unfolding sequence_f
      stops-within zero s = outlasted
      stops-within (suc f) s =
          cond_cases (Stops P) (ended s) finished (row_then (next s) (λ rest. sequence_f f ended next rest)) (λ _. tt)
          (λ _. then-stops P (next s) (λ rest. sequence_f f ended next rest) (each s) (λ t. stops-within f t))

      pub sequence-stops : (s : List ℕ) → Stops P (sequence ended next s)
      unfolding sequence
      sequence-stops s = stops-within (suc (length s)) s
