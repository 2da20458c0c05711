-- From rows to streams, for all three kinds: a stream is read to its end exactly when it is rows one after another.
use Prim.Native.Nat.{◌+◌, ◌/◌, ◌<◌, suc, zero, ℕ}
use native.Mathlib.Omega.{arith}
use mathlib.Core.Bool.{Bool, cond, false, false≢true, true}
use mathlib.Core.List.{List, [], ◌++◌, ◌∷◌, append_assoc, append-nil, map}
use mathlib.Core.Path.{◌∙◌, ◌≡◌, ap, refl, subst, subst⁻¹, sym}
use lib.Dec.{lit≤}
use lib.ListN.{length}
use Rattle.binary.proofs.Laws.{first_back, first-splits}
use Rattle.binary.specs.Binary.{bit_bytes, read_flags}
use Rattle.grammar.proofs.BinariesRead.{binary-is, binary-read, binary2-is, binary2-read, bits-in-all, bits-in-bytes, bits-in-is, bits-in-long, bits-in-read, joined, parts-bytes}
use Rattle.grammar.proofs.Fronts.{Front, skip_all, skip_is, skip-stays, skip-white, tag_is, tag_read}
use Rattle.grammar.proofs.TextRead.{Indented, cell-is, cell-read}
use Rattle.grammar.specs.Binaries.{Binary2Row, BinaryRow, BitsIn, FlaggedCells, RowStream, binary-end, binary-then, binary2-row, flagged-end, flagged-null, flagged-shown, stream_end, stream-row}
use Rattle.grammar.specs.Exact.{table_of}
use Rattle.grammar.specs.RowRefusals.{TagAt}
use Rattle.grammar.specs.Text.{TextCells, TextRow, TextTable, cells-end, cells-then, table-end, table-row, text-row}
use Rattle.grammar.specs.Words.{Tag, White, a-tag}
use Rattle.rows.proofs.Laws.{read-row, read_step}
use Rattle.rows.specs.Stream.{Table, at_end, flag, flags_left, is_empty, is_set, read, read_cell, read_cells, read_end, read_row, read_start}
use Rattle.rows.specs.Sequence.{finished, row, row_then, stopped}
use Rattle.table.proofs.Laws.{holds_as, holds_at, holds-bind, holds-weaken, no-white}
use Rattle.table.specs.All.{All, AreBytes}
use Rattle.table.specs.Bytes.{bytes, skip_white, tag}
use Rattle.table.specs.Cell.{AreColumns, Cell}
use Rattle.table.specs.Outcome.{Refusal, at}
use Rattle.table.specs.Result.{Holds, Result, bad, good, holds}
use Rattle.table.specs.declared.Column.{Column}
use Rattle.table.specs.declared.Rows.{Rows}
use Rattle.table.specs.declared.Rows.TheVariants.{Binary, Binary2, TableData}
use Rattle.tabledata.specs.TableData.{close-TR, open-TR}

-- ---- what a read table says of its first row

abbrev pub IsFinished : Table → Type 0
IsFinished finished = Unit {0}
IsFinished (stopped e) = ⊥
IsFinished (row xs t) = ⊥

abbrev IsRow : Table → Type 0
IsRow finished = ⊥
IsRow (stopped e) = ⊥
IsRow (row xs t) = Unit {0}

module _ (from : Rows) (cs : List Column) (i : AreColumns cs) where
  pub at-the-end : (s : List ℕ) → at_end from s ≡ true → read from cs s ≡ finished
  at-the-end s h = read_step from cs i s ∙ rw h

  pub ends_there : (s : List ℕ) → read from cs s ≡ finished → at_end from s ≡ true
  ends_there s e = go (at_end from s) refl (read_row from cs s) (sym (read_step from cs i s) ∙ e)
    where
      go : (b : Bool) → at_end from s ≡ b → (r : Result Refusal (List Cell × List ℕ)) → cond b finished (row_then r (read from cs)) ≡ finished → at_end from s ≡ true
      go true h r e = h
      go false h (good p) e = unfold row_then in absurd (subst IsRow e tt)
      go false h (bad n) e = unfold row_then in absurd (subst⁻¹ IsFinished e tt)

  pub first-row : (s : List ℕ) (xs : List Cell) (t : Table) → read from cs s ≡ row xs t → (rest : List ℕ) × (read_row from cs s ≡ good (xs, rest)) × (read from cs rest ≡ t)
  first-row s xs t e = go (at_end from s) (read_row from cs s) refl (sym (read_step from cs i s) ∙ e)
    where
      go : (b : Bool) (r : Result Refusal (List Cell × List ℕ)) → read_row from cs s ≡ r → cond b finished (row_then r (read from cs)) ≡ row xs t
          → (rest : List ℕ) × (read_row from cs s ≡ good (xs, rest)) × (read from cs rest ≡ t)
      go true r q e = absurd (subst⁻¹ IsRow e tt)
      go false (good p) q e = unfold row_then in
          let k : p.0 ≡ xs = cc e in
          let l : read from cs p.1 ≡ t = cc e in
          (p.1, q ∙ ap (λ (x : List Cell). good (x, p.1)) k, l)
      go false (bad n) q e = unfold row_then in absurd (subst⁻¹ IsRow e tt)

  pub first-stop : (s : List ℕ) (e : Refusal) → read from cs s ≡ stopped e → (at_end from s ≡ false) × (read_row from cs s ≡ bad e)
  first-stop s e q = go (at_end from s) refl (read_row from cs s) refl (sym (read_step from cs i s) ∙ q)
    where
      go : (b : Bool) → at_end from s ≡ b → (r : Result Refusal (List Cell × List ℕ)) → read_row from cs s ≡ r → cond b finished (row_then r (read from cs)) ≡ stopped e
          → (at_end from s ≡ false) × (read_row from cs s ≡ bad e)
      go true h r k q = absurd (subst IsFinished q tt)
      go false h (good p) k q = unfold row_then in absurd (subst IsRow q tt)
      go false h (bad n) k q = unfold row_then in let m : n ≡ e = cc q in (h, k ∙ ap bad m)

-- ---- TABLEDATA

-- a tag that may stand behind white space
pub indented-tag : (n : ℕ) (word : List ℕ) {w a : List ℕ} → White w → Tag (60 ∷ word) (bytes ">") a → (rest : List ℕ) → tag n (60 ∷ word) (skip_white (w ++ (a ++ rest))) ≡ good rest
indented-tag n word w (a-tag h) rest = rw (skip-white w, skip-stays 60 _ (no-white 60 (lit≤ tt))) (tag_read n {word = 60 ∷ word} (a-tag h) rest)

pub indented-tag-is : (n : ℕ) (word s : List ℕ) → Holds (TagAt word s) (tag n word (skip_white s))
indented-tag-is n word s = holds-weaken (tag_is n word (skip_white s)) (λ rest r. record {
  white = (skip_is s).taken;
  taken = r.taken;
  is_white = (skip_is s).spelled;
  whole = (skip_is s).whole ∙ ap (λ (x : List ℕ). (skip_is s).taken ++ x) r.whole;
  tag = r.spelled;
})

text-cells-read : {cs : List Column} {b : List ℕ} {xs : List Cell} → TextCells cs b xs → (fs : List Bool) (k : ℕ) (rest : List ℕ) → read_cells TableData cs fs k (b ++ rest) ≡ good (xs, rest)
unfolding read_cells read_cell
text-cells-read cells-end fs k rest = refl
text-cells-read (cells-then {w = w} {t = t} {s = s} h c r) fs k rest =
    rw (append_assoc w (t ++ s) rest, append_assoc t s rest, cell-read h c (s ++ rest), text-cells-read r (flags_left fs) (k + 1) rest)

text-cells-are : (cs : List Column) (fs : List Bool) (k : ℕ) (s : List ℕ) → Holds (Front (TextCells cs) s) (read_cells TableData cs fs k s)
unfolding read_cells read_cell
text-cells-are [] fs k s = holds (record { taken = []; whole = refl; spelled = cells-end })
text-cells-are (c ∷ cs) fs k s =
    holds-bind (holds_as (at k) (cell-is c s)) (λ p h.
    holds-bind (text-cells-are cs (flags_left fs) (k + 1) p.1) (λ q g. holds (record {
      taken = h.white ++ (h.taken ++ g.taken);
      whole = h.whole ∙ ap (λ (x : List ℕ). h.white ++ x) (ap (λ (x : List ℕ). h.taken ++ x) g.whole ∙ sym (append_assoc h.taken g.taken q.1))
          ∙ sym (append_assoc h.white (h.taken ++ g.taken) q.1);
      spelled = cells-then h.is_white h.spelled g.spelled;
    })))

pub text-row-read : {cs : List Column} {w r : List ℕ} {xs : List Cell} → White w → TextRow cs r xs → (rest : List ℕ) → read_row TableData cs (w ++ (r ++ rest)) ≡ good (xs, rest)
unfolding read_row read_start read_end open-TR close-TR
text-row-read {cs} w (text-row {a = a} {b = b} {w = u} {z = z} h c v k) rest =
    rw (
      append_assoc a (b ++ (u ++ z)) rest,
      append_assoc b (u ++ z) rest,
      append_assoc u z rest,
      indented-tag 10 (84 ∷ 82 ∷ []) w h (b ++ (u ++ (z ++ rest))),
      text-cells-read c [] 0 (u ++ (z ++ rest)),
      indented-tag 10 (47 ∷ 84 ∷ 82 ∷ []) v k rest,
    )

text-start-is : (n : ℕ) (s : List ℕ) → Holds (λ (p : List Bool × List ℕ). TagAt (bytes "<TR") s p.1) (read_start TableData n s)
unfolding read_start open-TR
text-start-is n s = holds-bind (indented-tag-is 10 (bytes "<TR") s) (λ t h. holds h)

pub text-row-is : (cs : List Column) (s : List ℕ) → Holds (Indented (TextRow cs) s) (read_row TableData cs s)
unfolding read_row read_end close-TR
text-row-is cs s =
    holds-bind (holds_as (at 0) (text-start-is (length cs) s)) (λ p h.
    holds-bind (text-cells-are cs p.0 0 p.1) (λ q g.
    holds-bind (holds_as (at (length cs)) (indented-tag-is 10 (bytes "</TR") q.1)) (λ rest k. holds (record {
      white = h.white;
      is_white = h.is_white;
      taken = h.taken ++ (g.taken ++ (k.white ++ k.taken));
      whole = h.whole ∙ ap (λ (x : List ℕ). h.white ++ x) (joined (h.taken ++ p.1) h.taken (g.taken ++ (k.white ++ k.taken)) p.1 rest refl
          (joined p.1 g.taken (k.white ++ k.taken) q.1 rest g.whole (joined q.1 k.white k.taken (k.taken ++ rest) rest k.whole refl)));
      spelled = text-row h.tag g.spelled k.is_white k.tag;
    }))))

pub empty-is : (s : List ℕ) → is_empty s ≡ true → s ≡ []
unfolding is_empty
empty-is [] h = refl
empty-is (b ∷ s) h = absurd (false≢true h)

module _ (cs : List Column) (i : AreColumns cs) where
  pub text-table-read : {s : List ℕ} {rows : List (List Cell)} → TextTable cs s rows → read TableData cs s ≡ table_of rows
  unfolding table_of at_end is_empty
  text-table-read (table-end {w = w} h) = at-the-end TableData cs i w (rw (skip_all h))
  text-table-read (table-row {w = w} {r = r} {s = s} {xs = xs} h t m) =
      read-row TableData cs i (w ++ (r ++ s)) xs s (text-row-read h t s) ∙ ap (row xs) (text-table-read m)

  pub text-table-is : (rows : List (List Cell)) (s : List ℕ) → read TableData cs s ≡ table_of rows → TextTable cs s rows
  unfolding table_of at_end
  text-table-is [] s e =
      let q : skip_white s ≡ [] = empty-is (skip_white s) (ends_there TableData cs i s e) in
      subst⁻¹ (λ (x : List ℕ). TextTable cs x []) ((skip_is s).whole ∙ rw (q, append-nil)) (table-end (skip_is s).spelled)
  text-table-is (xs ∷ rows) s e =
      let f = first-row TableData cs i s xs (table_of rows) e in
      let r : Indented (TextRow cs) s (xs, f.0) = holds_at (text-row-is cs s) f.1 in
      subst⁻¹ (λ (x : List ℕ). TextTable cs x (xs ∷ rows)) r.whole (table-row r.is_white r.spelled (text-table-is rows f.0 f.2))

-- ---- BINARY

binary-cells-read : {cs : List Column} {b : List ℕ} {xs : List Cell} → BinaryRow cs b xs → (fs : List Bool) (k : ℕ) (rest : List ℕ) → read_cells Binary cs fs k (b ++ rest) ≡ good (xs, rest)
unfolding read_cells read_cell
binary-cells-read binary-end fs k rest = refl
binary-cells-read (binary-then {b = b} {s = s} h r) fs k rest = rw (append_assoc b s rest, binary-read h (s ++ rest), binary-cells-read r (flags_left fs) (k + 1) rest)

binary-cells-are : (cs : List Column) (fs : List Bool) (k : ℕ) (s : List ℕ) → AreBytes s → Holds (Front (BinaryRow cs) s) (read_cells Binary cs fs k s)
unfolding read_cells read_cell
binary-cells-are [] fs k s a = holds (record { taken = []; whole = refl; spelled = binary-end })
binary-cells-are (c ∷ cs) fs k s a =
    holds-bind (holds_as (at k) (binary-is c s a)) (λ p h.
    holds-bind (binary-cells-are cs (flags_left fs) (k + 1) p.1 (parts-bytes s h.taken p.1 h.whole a).1) (λ q g. holds (record {
      taken = h.taken ++ g.taken;
      whole = joined s h.taken g.taken p.1 q.1 h.whole g.whole;
      spelled = binary-then h.spelled g.spelled;
    })))

pub binary-row-read : (cs : List Column) (b : List ℕ) (xs : List Cell) → BinaryRow cs b xs → (rest : List ℕ) → read_row Binary cs (b ++ rest) ≡ good (xs, rest)
unfolding read_row read_start read_end
binary-row-read cs b xs h rest = rw (binary-cells-read h [] 0 rest)

pub binary-row-is : (cs : List Column) (s : List ℕ) → AreBytes s → Holds (Front (BinaryRow cs) s) (read_row Binary cs s)
unfolding read_row read_start read_end
binary-row-is cs s a = holds-bind (binary-cells-are cs [] 0 s a) (λ p h. holds h)

-- ---- BINARY2

flagged-read : {cs : List Column} {flags b : List ℕ} {xs : List Cell} → FlaggedCells cs flags b xs → (k : ℕ) (rest : List ℕ) → read_cells Binary2 cs (map is_set flags) k (b ++ rest) ≡ good (xs, rest)
unfolding read_cells read_cell flag flags_left is_set
flagged-read flagged-end k rest = refl
flagged-read (flagged-null {b = b} {s = s} h r) k rest = rw (append_assoc b s rest, binary2-read h (s ++ rest), flagged-read r (k + 1) rest)
flagged-read (flagged-shown {b = b} {s = s} h r) k rest = rw (append_assoc b s rest, binary2-read h (s ++ rest), flagged-read r (k + 1) rest)

flagged-are : (cs : List Column) (flags : List ℕ) (k : ℕ) (s : List ℕ) → length flags ≡ length cs → All (λ (b : ℕ). b < 2) flags → AreBytes s
    → Holds (Front (FlaggedCells cs flags) s) (read_cells Binary2 cs (map is_set flags) k s)
unfolding read_cells read_cell flag flags_left is_set
flagged-are [] [] k s l f a = holds (record { taken = []; whole = refl; spelled = flagged-end })
flagged-are [] (b ∷ flags) k s l f a = absurd (omega arith)
flagged-are (c ∷ cs) [] k s l f a = absurd (omega arith)
flagged-are (c ∷ cs) (zero ∷ flags) k s l f a =
    holds-bind (holds_as (at k) (binary2-is c false s a)) (λ p h.
    holds-bind (flagged-are cs flags (k + 1) p.1 (omega arith) f.1 (parts-bytes s h.taken p.1 h.whole a).1) (λ q g. holds (record {
      taken = h.taken ++ g.taken;
      whole = joined s h.taken g.taken p.1 q.1 h.whole g.whole;
      spelled = flagged-shown h.spelled g.spelled;
    })))
flagged-are (c ∷ cs) (suc zero ∷ flags) k s l f a =
    holds-bind (holds_as (at k) (binary2-is c true s a)) (λ p h.
    holds-bind (flagged-are cs flags (k + 1) p.1 (omega arith) f.1 (parts-bytes s h.taken p.1 h.whole a).1) (λ q g. holds (record {
      taken = h.taken ++ g.taken;
      whole = joined s h.taken g.taken p.1 q.1 h.whole g.whole;
      spelled = flagged-null h.spelled g.spelled;
    })))
flagged-are (c ∷ cs) (suc (suc n) ∷ flags) k s l f a = absurd (omega (arith, f.0))

pub binary2-row-read : (cs : List Column) (b : List ℕ) (xs : List Cell) → Binary2Row cs b xs → (rest : List ℕ) → read_row Binary2 cs (b ++ rest) ≡ good (xs, rest)
unfolding read_row read_start read_end read_flags bit_bytes
binary2-row-read cs t xs (binary2-row {a = a} {b = b} h r) rest =
    rw (append_assoc a b rest, first_back ((length cs + 7) / 8) a (b ++ rest) (bits-in-bytes h), bits-in-read h, flagged-read r 0 rest)

flags-in : (n : ℕ) (s : List ℕ) → AreBytes s → Holds (λ (p : List ℕ × List ℕ). (a : List ℕ) × BitsIn n a p.0 × (s ≡ a ++ p.1)) (read_flags n s)
unfolding read_flags bit_bytes
flags-in n s a =
    holds-bind (first-splits ((n + 7) / 8) s) (λ p h.
    holds-bind (bits-in-is n p.0 h.0 (parts-bytes s p.0 p.1 h.1 a).0) (λ flags g. holds (p.0, g, h.1)))

-- flags, and what follows them
abbrev pub Flags : ℕ → List ℕ → List Bool × List ℕ → Type 0
Flags n s p = (a : List ℕ) × (flags : List ℕ) × BitsIn n a flags × (p.0 ≡ map is_set flags) × (s ≡ a ++ p.1)

pub binary2-start-is : (n : ℕ) (s : List ℕ) → AreBytes s → Holds (Flags n s) (read_start Binary2 n s)
unfolding read_start
binary2-start-is n s a = holds-bind (flags-in n s a) (λ p h. holds (h.0, p.0, h.1, refl, h.2))

pub binary2-row-is : (cs : List Column) (s : List ℕ) → AreBytes s → Holds (Front (Binary2Row cs) s) (read_row Binary2 cs s)
unfolding read_row read_end
binary2-row-is cs s a =
    holds-bind (holds_as (at 0) (binary2-start-is (length cs) s a)) (λ p h.
    holds-bind (subst⁻¹ (λ (fs : List Bool). Holds (Front (FlaggedCells cs h.1) p.1) (read_cells Binary2 cs fs 0 p.1)) h.3
    (flagged-are cs h.1 0 p.1 (bits-in-long h.2) (bits-in-all h.2) (parts-bytes s h.0 p.1 h.4 a).1)) (λ q g. holds (record {
      taken = h.0 ++ g.taken;
      whole = joined s h.0 g.taken p.1 q.1 h.4 g.whole;
      spelled = binary2-row h.2 g.spelled;
    })))

-- ---- streams of rows

module _ (from : Rows) (cs : List Column) (i : AreColumns cs) (Row : List ℕ → List Cell → Type 0)
    (complete : (b : List ℕ) (xs : List Cell) → Row b xs → (rest : List ℕ) → read_row from cs (b ++ rest) ≡ good (xs, rest))
    (sound : (s : List ℕ) → AreBytes s → Holds (Front Row s) (read_row from cs s))
    (at-nothing : at_end from [] ≡ true) (nothing : (s : List ℕ) → at_end from s ≡ true → s ≡ []) where
  stream-read : {s : List ℕ} {rows : List (List Cell)} → RowStream Row s rows → read from cs s ≡ table_of rows
  unfolding table_of
  stream-read stream_end = at-the-end from cs i [] at-nothing
  stream-read (stream-row {b = b} {s = s} {xs = xs} h r) = read-row from cs i (b ++ s) xs s (complete b xs h s) ∙ ap (row xs) (stream-read r)

  stream-is : (rows : List (List Cell)) (s : List ℕ) → AreBytes s → read from cs s ≡ table_of rows → RowStream Row s rows
  unfolding table_of
  stream-is [] s a e = subst⁻¹ (λ (x : List ℕ). RowStream Row x []) (nothing s (ends_there from cs i s e)) stream_end
  stream-is (xs ∷ rows) s a e =
      let f = first-row from cs i s xs (table_of rows) e in
      let r : Front Row s (xs, f.0) = holds_at (sound s a) f.1 in
      subst⁻¹ (λ (x : List ℕ). RowStream Row x (xs ∷ rows)) r.whole (stream-row r.spelled (stream-is rows f.0 (parts-bytes s r.taken f.0 r.whole a).1 f.2))

module _ (cs : List Column) (i : AreColumns cs) where
  pub binary-stream-read : {s : List ℕ} {rows : List (List Cell)} → RowStream (BinaryRow cs) s rows → read Binary cs s ≡ table_of rows
  unfolding at_end is_empty
  binary-stream-read h = stream-read Binary cs i (BinaryRow cs) (binary-row-read cs) (binary-row-is cs) refl empty-is h

  pub binary-stream-is : (rows : List (List Cell)) (s : List ℕ) → AreBytes s → read Binary cs s ≡ table_of rows → RowStream (BinaryRow cs) s rows
  unfolding at_end is_empty
  binary-stream-is = stream-is Binary cs i (BinaryRow cs) (binary-row-read cs) (binary-row-is cs) refl empty-is

  pub binary2-stream-read : {s : List ℕ} {rows : List (List Cell)} → RowStream (Binary2Row cs) s rows → read Binary2 cs s ≡ table_of rows
  unfolding at_end is_empty
  binary2-stream-read h = stream-read Binary2 cs i (Binary2Row cs) (binary2-row-read cs) (binary2-row-is cs) refl empty-is h

  pub binary2-stream-is : (rows : List (List Cell)) (s : List ℕ) → AreBytes s → read Binary2 cs s ≡ table_of rows → RowStream (Binary2Row cs) s rows
  unfolding at_end is_empty
  binary2-stream-is = stream-is Binary2 cs i (Binary2Row cs) (binary2-row-read cs) (binary2-row-is cs) refl empty-is
