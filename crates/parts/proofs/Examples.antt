-- Joining, computed: an input of 100 bytes in a room of 50.
use Prim.Native.Nat.{ℕ}
use mathlib.Core.List.{List, [], ◌∷◌}
use mathlib.Core.Path.{◌≡◌, refl}
use Rattle.parts.specs.Join.{at_its_end, ended_with, gone_on, is_counted, is_final, is_used, join, joined_with, most_count, nothing, first_part, parts_in, parts_of}
use Rattle.parts.specs.declared.Joined.{Joined}
use Rattle.table.specs.Outcome.{most_input}

abbrev pub joined_parts : List ℕ → Joined
joined_parts parts = join 100 50 nothing (parts_of parts)

-- how far it has come: rows, bytes, the place and the parts
abbrev pub goes_on : ℕ → ℕ → ℕ → ℕ → Joined
goes_on rows bytes place parts = record { number = 0; row = 0; column = 0; rows = rows; bytes = bytes; place = place; parts = parts; ended = 0 }

-- how it ended
abbrev pub ends : ℕ → ℕ → ℕ → ℕ → ℕ → ℕ → ℕ → Joined
ends number row column rows bytes place parts =
    record { number = number; row = row; column = column; rows = rows; bytes = bytes; place = place; parts = parts; ended = 1 }

pub record Examples : Type 0 where
  -- two parts, accepted to the end
  pub whole : joined_parts (0 ∷ 60 ∷ 50 ∷ 0 ∷ 0 ∷ 0 ∷ 6 ∷ 24 ∷ 60 ∷ 60 ∷ 40 ∷ 50 ∷ 0 ∷ 0 ∷ 0 ∷ 4 ∷ 16 ∷ 40 ∷ []) ≡ ends 0 0 0 10 40 100 2
  -- a refusal in the second, behind the six rows of the first
  pub behind : joined_parts (0 ∷ 60 ∷ 50 ∷ 0 ∷ 0 ∷ 0 ∷ 6 ∷ 24 ∷ 60 ∷ 60 ∷ 40 ∷ 50 ∷ 11 ∷ 1 ∷ 3 ∷ 1 ∷ 4 ∷ 10 ∷ []) ≡ ends 11 7 3 7 28 70 2
  -- cut in the middle of a row: it goes on with that row, and the next part, which begins elsewhere, is not used
  pub cut-row : joined_parts (0 ∷ 65 ∷ 50 ∷ 8 ∷ 6 ∷ 2 ∷ 6 ∷ 24 ∷ 60 ∷ 65 ∷ 35 ∷ 50 ∷ 0 ∷ 0 ∷ 0 ∷ 4 ∷ 16 ∷ 35 ∷ []) ≡ goes_on 6 24 60 1
  pub cut-tag : joined_parts (0 ∷ 65 ∷ 50 ∷ 10 ∷ 6 ∷ 0 ∷ 6 ∷ 24 ∷ 60 ∷ []) ≡ goes_on 6 24 60 1
  -- and at the input's own end it is refused
  pub cut-input : joined_parts (0 ∷ 100 ∷ 50 ∷ 8 ∷ 6 ∷ 2 ∷ 6 ∷ 24 ∷ 90 ∷ []) ≡ ends 8 6 2 6 24 90 1
  -- 17 in less room than the whole has left is the part's own; in as much it is the whole's
  pub less-room : joined_parts (0 ∷ 60 ∷ 49 ∷ 17 ∷ 6 ∷ 0 ∷ 6 ∷ 24 ∷ 36 ∷ []) ≡ goes_on 6 24 36 1
  pub all_room : joined_parts (0 ∷ 60 ∷ 50 ∷ 17 ∷ 6 ∷ 0 ∷ 6 ∷ 24 ∷ 36 ∷ []) ≡ ends 17 6 0 6 24 36 1
  -- rows that the whole has no room for are not joined
  pub over-room : joined_parts (0 ∷ 60 ∷ 90 ∷ 0 ∷ 0 ∷ 0 ∷ 6 ∷ 51 ∷ 60 ∷ []) ≡ goes_on 0 0 0 0

pub examples : Examples
unfolding join is_used is_counted joined_with is_final at_its_end gone_on ended_with nothing parts_of parts_in first_part most_count most_input
examples = record { whole = refl; behind = refl; cut-row = refl; cut-tag = refl; cut-input = refl; less-room = refl; all_room = refl; over-room = refl }
