-- Nine numbers as an array are a part: the first nine of what stands from there on.
use Prim.Native.Nat.{◌*◌, ◌<◌, suc, zero, ℕ}
use mathlib.Core.List.{List, []}
use mathlib.Core.Path.{◌∙◌, ◌≡◌, ap}
use native.Mathlib.Omega.{arith}
use lib.ListN.{drop, get_or, take}
use lib.Seq.{drop-drop}
use Rattle.std.proofs.lemmas.List.{get_or-take}
use Rattle.std.specs.Simd.{first_chunks}
use Rattle.parts.specs.Join.{first_part}

first-nine : (s : List ℕ) → first_part (take 9 s) ≡ first_part s
unfolding first_part
first-nine s = λ i. record {
  start = get_or-take 9 s 0 0 (omega arith) i;
  length = get_or-take 9 s 1 0 (omega arith) i;
  room = get_or-take 9 s 2 0 (omega arith) i;
  number = get_or-take 9 s 3 0 (omega arith) i;
  row = get_or-take 9 s 4 0 (omega arith) i;
  column = get_or-take 9 s 5 0 (omega arith) i;
  rows = get_or-take 9 s 6 0 (omega arith) i;
  bytes = get_or-take 9 s 7 0 (omega arith) i;
  place = get_or-take 9 s 8 0 (omega arith) i;
}

pub part_at : (count i : ℕ) (s : List ℕ) → i < count → first_part (get_or (first_chunks 9 count s) i []) ≡ first_part (drop (i * 9) s)
part_at zero i s h = absurd (omega arith)
part_at (suc count) zero s h = first-nine s
part_at (suc count) (suc i) s h =
    part_at count i (drop 9 s) (omega arith) ∙ ap first_part (drop-drop (i * 9) 9 s ∙ ap (λ (n : ℕ). drop n s) (omega arith))
