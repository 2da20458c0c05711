-- The flags of a BINARY2 row as the contracts of the code speak of them.
use Rattle.std.specs.Prelude.{Result as Returned, Ok, Err, ◌<◌, ◌^◌, ◌≤◌, ℕ, List, ◌≡◌, drop, length}
use Rattle.flags.specs.declared.Flags.{Flags}
use Rattle.number.specs.Number.{to_digits}
use Rattle.table.specs.Reasons.{number_of}
use Rattle.table.specs.Result.{Result, bad, good}
use Rattle.table.specs.declared.Reason.{Reason}

-- the flags of n columns as one number: its n digits in base 2
abbrev pub flags_as : ℕ → List ℕ → Returned Flags Reason → Result ℕ (List ℕ × List ℕ)
flags_as n s (Ok f) = good (to_digits 2 n f.word, drop f.next s)
flags_as n s (Err e) = bad (number_of e)

abbrev pub FlagsWithin : ℕ → List ℕ → ℕ → Returned Flags Reason → Type 0
FlagsWithin n s place (Ok f) = (place ≤ f.next) × (f.next ≤ length s) × (f.word < 2 ^ n)
FlagsWithin n s place (Err e) = Unit {0}

pub record ReadsFlags (definition : Result ℕ (List ℕ × List ℕ)) (s : List ℕ) (place columns : ℕ) (r : Returned Flags Reason) : Type 0 where
  pub found : definition ≡ flags_as columns s r
  pub within : FlagsWithin columns s place r
