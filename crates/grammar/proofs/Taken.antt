-- A row reader takes a front of the stream and looks no further: whatever stands behind that front, the same row is read from it. In TABLEDATA this
-- is what the grammar says of a row, read and spelled; in BINARY and BINARY2 it follows the reader, part by part.
use Prim.Native.Nat.{◌+◌, ℕ}
use mathlib.Core.Bool.{Bool, false}
use mathlib.Core.List.{List, [], ◌++◌, ◌∷◌, append_assoc}
use mathlib.Core.Path.{◌∙◌, ◌≡◌, ap, refl, sym}
use lib.Dec.{ltb}
use lib.ListN.{length}
use Rattle.binary.proofs.Laws.{first_back, first-splits}
use Rattle.binary.specs.Binary.{at_most, bit_bytes, content_bytes, count_in, counted, read_binary, read_binary2, read_flags, shows, unpack}
use Rattle.grammar.proofs.BinariesRead.{joined}
use Rattle.grammar.proofs.Streams.{text-row-is, text-row-read}
use Rattle.grammar.proofs.WrittenBytes.{IsBinary, the-binary, the-binary2}
use Rattle.number.specs.Number.{of_digits}
use Rattle.rows.specs.Stream.{flag, flags_left, read_cell, read_cells, read_end, read_row, read_start}
use Rattle.table.proofs.Laws.{holds_as, holds-bind, holds-cond, holds-eq, holds-weaken}
use Rattle.table.specs.Cell.{most_elements}
use Rattle.table.specs.Outcome.{at}
use Rattle.table.specs.Result.{Holds, Result, good, holds, refuses}
use Rattle.table.specs.Shape.{shape}
use Rattle.table.specs.declared.Column.{Column}
use Rattle.table.specs.declared.Len.{Len}
use Rattle.table.specs.declared.Len.TheVariants.{Bounded, Fixed, Free}
use Rattle.table.specs.declared.Rows.{Rows}
use Rattle.table.specs.declared.Rows.TheVariants.{Binary, Binary2, TableData}

-- the front that was taken, and that the same is read from it whatever follows
pub record Taken {E A : Type 0} (f : List ℕ → Result E (A × List ℕ)) (s : List ℕ) (p : A × List ℕ) : Type 0 where
  pub taken : List ℕ
  pub whole : s ≡ taken ++ p.1
  pub again : (t : List ℕ) → f (taken ++ t) ≡ good (p.0, t)

-- ---- a cell of BINARY and BINARY2

counted-taken : (most : ℕ) (s : List ℕ) → Holds (Taken (counted most) s) (counted most s)
unfolding counted at_most
counted-taken most s =
    holds-bind (first-splits 4 s) (λ p h.
    holds-cond (ltb most (of_digits 256 0 p.0)) (λ _. refuses)
    (λ few. holds (record { taken = p.0; whole = h.1; again = λ t. rw (first_back 4 p.0 t h.0, few) })))

count-taken : (l : Len) (s : List ℕ) → Holds (Taken (count_in l) s) (count_in l s)
unfolding count_in
count-taken (Fixed n) s = holds (record { taken = []; whole = refl; again = λ t. refl })
count-taken (Bounded n) s = counted-taken n s
count-taken Free s = counted-taken most_elements s

binary2-taken : (c : Column) (f : Bool) (s : List ℕ) → Holds (Taken (read_binary2 c f) s) (read_binary2 c f s)
unfolding read_binary2
binary2-taken c f s =
    holds-bind (count-taken c.len s) (λ p h.
    holds-bind (first-splits (content_bytes (shape c.kind) p.0) p.1) (λ q g.
    holds-bind (holds-eq (shows c f p.0 q.0)) (λ x e. holds (record {
      taken = h.taken ++ q.0;
      whole = joined s h.taken q.0 p.1 q.1 h.whole g.1;
      again = λ t. rw (append_assoc h.taken q.0 t, h.again (q.0 ++ t), first_back (content_bytes (shape c.kind) p.0) q.0 t g.0, e);
    }))))

-- ---- what begins a row, and its cells

binary-cell-taken : (from : Rows) → IsBinary from → (c : Column) (f : Bool) (s : List ℕ) → Holds (Taken (read_cell from c f) s) (read_cell from c f s)
unfolding read_cell read_binary
binary-cell-taken from the-binary c f s =
    holds-bind (binary2-taken c false s) (λ p h. holds (record { taken = h.taken; whole = h.whole; again = λ t. rw (h.again t) }))
binary-cell-taken from the-binary2 c f s = binary2-taken c f s

binary-start-taken : (from : Rows) → IsBinary from → (n : ℕ) (s : List ℕ) → Holds (Taken (read_start from n) s) (read_start from n s)
unfolding read_start read_flags
binary-start-taken from the-binary n s = holds (record { taken = []; whole = refl; again = λ t. refl })
binary-start-taken from the-binary2 n s =
    holds-bind
    (holds-bind {P = λ (p : List ℕ × List ℕ). (length p.0 ≡ bit_bytes n) × (s ≡ p.0 ++ p.1)} {Q = Taken (read_flags n) s} (first-splits (bit_bytes n) s) (λ p h.
    holds-bind (holds-eq (unpack n p.0)) (λ bits e. holds (record {
      taken = p.0;
      whole = h.1;
      again = λ t. rw (first_back (bit_bytes n) p.0 t h.0, e);
    }))))
    (λ p h. holds (record { taken = h.taken; whole = h.whole; again = λ t. rw (h.again t) }))

binary-end : {from : Rows} → IsBinary from → (s : List ℕ) → read_end from s ≡ good s
unfolding read_end
binary-end the-binary s = refl
binary-end the-binary2 s = refl

module _ (from : Rows) (b : IsBinary from) where
  cells-taken : (cs : List Column) (fs : List Bool) (k : ℕ) (s : List ℕ) → Holds (Taken (read_cells from cs fs k) s) (read_cells from cs fs k s)
  unfolding read_cells
  cells-taken [] fs k s = holds (record { taken = []; whole = refl; again = λ t. refl })
  cells-taken (c ∷ cs) fs k s =
      holds-bind (holds_as (at k) (binary-cell-taken from b c (flag fs) s)) (λ p h.
      holds-bind (cells-taken cs (flags_left fs) (k + 1) p.1) (λ q g. holds (record {
        taken = h.taken ++ g.taken;
        whole = joined s h.taken g.taken p.1 q.1 h.whole g.whole;
        again = λ t. rw (append_assoc h.taken g.taken t, h.again (g.taken ++ t), g.again t);
      })))

  binary-row-taken : (cs : List Column) (s : List ℕ) → Holds (Taken (read_row from cs) s) (read_row from cs s)
  unfolding read_row
  binary-row-taken cs s =
      holds-bind (holds_as (at 0) (binary-start-taken from b (length cs) s)) (λ p h.
      holds-bind (cells-taken cs p.0 0 p.1) (λ q g. rw (binary-end b q.1) (holds {a = (q.0, q.1)} (record {
        taken = h.taken ++ g.taken;
        whole = joined s h.taken g.taken p.1 q.1 h.whole g.whole;
        again = λ t. rw (append_assoc h.taken g.taken t, h.again (g.taken ++ t), g.again t, binary-end b t);
      }))))

-- ---- a row of any kind

pub row-taken : (from : Rows) (cs : List Column) (s : List ℕ) → Holds (Taken (read_row from cs) s) (read_row from cs s)
row-taken TableData cs s = holds-weaken (text-row-is cs s) (λ p h. record {
  taken = h.white ++ h.taken;
  whole = h.whole ∙ sym (append_assoc h.white h.taken p.1);
  again = λ t. ap (read_row TableData cs) (append_assoc h.white h.taken t) ∙ text-row-read h.is_white h.spelled t;
})
row-taken Binary cs s = binary-row-taken Binary the-binary cs s
row-taken Binary2 cs s = binary-row-taken Binary2 the-binary2 cs s
