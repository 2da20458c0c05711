-- Parts of an input, each converted by a call of its own, joined: from the numbers of the parts those of one call on the whole. A part may begin and
-- end anywhere: where it was cut in the middle of a row, the rows before that row count, and the next part has to begin with it.
use Rattle.std.specs.Prelude.{◌+◌, ◌/◌, suc, zero, ℕ, Bool, ◌&&◌, ◌||◌, cond, true, List, [], ◌∷◌, eqb, leb, drop, get_or, length}
use Rattle.parts.specs.declared.Joined.{Joined}
use Rattle.parts.specs.declared.Part.{Part}
use Rattle.table.specs.Outcome.{most_input}

-- ---- which part is used

-- what 64 bits hold at most
unfoldable pub most_count : ℕ
most_count = 18446744073709551615

-- what is added up for it can be counted
unfoldable pub is_counted : Joined → Part → Bool
is_counted j p =
    leb (j.place + p.place) most_count && (leb (j.rows + p.rows) most_count && (leb (j.rows + p.row) most_count && leb (j.parts + 1) most_count))

-- the one that begins exactly where the rows done end, if it is within the size of an input and the room of the whole has its rows too
unfoldable pub is_used : ℕ → Joined → Part → Bool
is_used room j p =
    eqb j.ended 0 && (eqb p.start j.place && (leb p.length most_input && (leb (j.bytes + p.bytes) room && is_counted j p)))

-- ---- whether the whole ends with it

-- a part that is accepted, or whose last row may have been cut: 8 in BINARY and BINARY2, 10 in TABLEDATA
unfoldable pub at_its_end : ℕ → Bool
at_its_end number = eqb number 0 || (eqb number 8 || eqb number 10)

-- such a part where it ends with the input; 17 where the part had all the room that is left; and every other refusal
unfoldable pub is_final : ℕ → ℕ → Joined → Part → Bool
is_final length room j p =
    cond (eqb p.number 17) (leb room (j.bytes + p.room)) (cond (at_its_end p.number) (eqb (p.start + p.length) length) true)

-- ---- joining

-- the rows done with it, and the place where they end
unfoldable pub gone_on : Joined → Part → Joined
gone_on j p = record {
  number = 0;
  row = 0;
  column = 0;
  rows = j.rows + p.rows;
  bytes = j.bytes + p.bytes;
  place = j.place + p.place;
  parts = j.parts + 1;
  ended = 0;
}

-- the answer of the whole: the part's, "shifted by the rows before it"
unfoldable pub ended_with : Joined → Part → Joined
ended_with j p = record {
  number = p.number;
  row = cond (eqb p.number 0) 0 (j.rows + p.row);
  column = p.column;
  rows = j.rows + p.rows;
  bytes = j.bytes + p.bytes;
  place = j.place + p.place;
  parts = j.parts + 1;
  ended = 1;
}

unfoldable pub joined_with : ℕ → ℕ → Joined → Part → Joined
joined_with length room j p = cond (is_final length room j p) (ended_with j p) (gone_on j p)

-- parts in order, until one is not used
unfoldable pub join : ℕ → ℕ → Joined → List Part → Joined
join length room j [] = j
join length room j (p ∷ ps) = cond (is_used room j p) (join length room (joined_with length room j p) ps) j

-- nothing is joined yet
unfoldable pub nothing : Joined
nothing = record { number = 0; row = 0; column = 0; rows = 0; bytes = 0; place = 0; parts = 0; ended = 0 }

-- ---- parts as numbers, nine for each

unfoldable pub first_part : List ℕ → Part
first_part s = record {
  start = get_or s 0 0;
  length = get_or s 1 0;
  room = get_or s 2 0;
  number = get_or s 3 0;
  row = get_or s 4 0;
  column = get_or s 5 0;
  rows = get_or s 6 0;
  bytes = get_or s 7 0;
  place = get_or s 8 0;
}

unfoldable pub parts_in : ℕ → List ℕ → List Part
parts_in zero s = []
parts_in (suc n) s = first_part s ∷ parts_in n (drop 9 s)

-- numbers behind the last whole nine are not looked at
unfoldable pub parts_of : List ℕ → List Part
parts_of s = parts_in (length s / 9) s
