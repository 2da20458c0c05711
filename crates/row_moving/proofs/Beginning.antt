-- How a row begins, by the number of the bytes there: `<TR>` by four of them, the flags by the front of eight.
use Rattle.std.specs.Prelude.{Ok}
use Prim.Native.Nat.{◌%◌, ◌*◌, ◌+◌, ◌-◌, ◌/◌, ◌<◌, ◌^◌, ◌≤◌, ℕ}
use native.Mathlib.Numerals.{add-one}
use native.Mathlib.Omega.{arith}
use mathlib.Core.List.{List, [], ◌++◌, ◌∷◌}
use mathlib.Core.Path.{◌∙◌, ◌≡◌, ap, ap₂, refl, sym}
use lib.Arith.{digits_div}
use lib.Dec.{lit<}
use lib.ListN.{drop, get_or, length, length-drop, take, take-append-drop}
use lib.Seq.{drop-cons, length-take-le, take-take}
use Rattle.binary.specs.Binary.{bit_bytes}
use Rattle.flags.proofs.FlagLaws.{pow-bytes, start-few, start-good}
use Rattle.flags.specs.declared.Flags.{Flags}
use Rattle.number.proofs.Laws.{of-append, of-from, of_lt}
use Rattle.number.specs.Number.{of_digits}
use Rattle.row_reading.proofs.Ways.{begun-binary2}
use Rattle.row_reading.specs.Clauses.{Begins, flags_in}
use Rattle.row_reading.specs.declared.Begin.{Begin}
use Rattle.rows.specs.Stream.{read_start}
use Rattle.table.proofs.Laws.{all_drop, all_take}
use Rattle.table.specs.All.{AreBytes}
use Rattle.table.specs.Bytes.{after, bytes, ends, is_white, skip_white, tag}
use Rattle.table.specs.Result.{good}
use Rattle.table.specs.declared.Rows.TheVariants.{Binary2, TableData}
use Rattle.tabledata.specs.TableData.{open-TR}
use Rattle.text_moving.proofs.Tags.{begins-four}

-- ---- a bare `<TR>`, behind a line's end or not

bare-start : (count : ℕ) (r : List ℕ) → read_start TableData count (bytes "<TR>" ++ r) ≡ good ([], r)
unfolding read_start tag after ends skip_white is_white open-TR
bare-start count r = refl

line-start : (count : ℕ) (r : List ℕ) → read_start TableData count (10 ∷ bytes "<TR>" ++ r) ≡ good ([], r)
unfolding read_start tag after ends skip_white is_white open-TR
line-start count r = refl

module _ (count : ℕ) (s : List ℕ) (at : ℕ) (a : AreBytes s) (h : at + 8 ≤ length s) (x : ℕ) (k : x ≡ 1012159038) where
  pub begins-bare : x ≡ of_digits 256 0 (take 4 (drop at s)) → Begins TableData count s at (Ok (record { flags = 0; cells = at + 4 }))
  unfolding flags_in
  begins-bare e =
      let four : drop at s ≡ bytes "<TR>" ++ drop (at + 4) s = begins-four s (bytes "<TR>") at a refl refl (omega arith) (unfold of_digits in sym k ∙ e) in
      record { begun = ap (read_start TableData count) four ∙ bare-start count (drop (at + 4) s); within = (omega arith, omega arith) }

  pub begins-line : get_or s at 0 ≡ 10 → x ≡ of_digits 256 0 (take 4 (drop (at + 1) s)) → Begins TableData count s at (Ok (record { flags = 0; cells = at + 1 + 4 }))
  unfolding flags_in
  begins-line b e =
      let four : drop (at + 1) s ≡ bytes "<TR>" ++ drop (at + 1 + 4) s = begins-four s (bytes "<TR>") (at + 1) a refl refl (omega arith) (unfold of_digits in sym k ∙ e) in
      let five : drop at s ≡ 10 ∷ bytes "<TR>" ++ drop (at + 1 + 4) s =
      drop-cons s at 0 (omega arith) ∙ ap₂ (λ (c : ℕ) (l : List ℕ). c ∷ l) b (ap (λ (i : ℕ). drop i s) (sym (add-one at)) ∙ four) in
      record { begun = ap (read_start TableData count) five ∙ line-start count (drop (at + 1 + 4) s); within = (omega arith, omega arith) }

-- ---- the flags

-- the first bytes of eight
front : (l : List ℕ) (n : ℕ) → AreBytes l → 8 ≤ length l → n ≤ 8 → of_digits 256 0 (take 8 l) / 2 ^ (64 - 8 * n) ≡ of_digits 256 0 (take n l)
front l n a h k =
    let q : List ℕ = take 8 l in
    let places : 8 * (8 - n) ≡ 64 - 8 * n = omega arith in
    let few : length (drop n q) ≡ 8 - n = length-drop n q ∙ ap (λ (i : ℕ). i - n) (length-take-le 8 l h) in
    let counts : 256 ^ length (drop n q) ≡ 2 ^ (64 - 8 * n) = ap (λ (i : ℕ). 256 ^ i) few ∙ pow-bytes (8 - n) ∙ ap (λ (i : ℕ). 2 ^ i) places in
    let below : of_digits 256 0 (drop n q) < 2 ^ (64 - 8 * n) = rw counts at (of_lt 256 (lit< tt) (drop n q) (all_drop _ n q (all_take _ 8 l a))) in
    ap (λ (x : ℕ). x / 2 ^ (64 - 8 * n))
    (ap (of_digits 256 0) (sym (take-append-drop n q)) ∙ of-append 256 0 (take n q) (drop n q) ∙ of-from 256 (of_digits 256 0 (take n q)) (drop n q)
    ∙ ap (λ (i : ℕ). of_digits 256 0 (take n q) * i + of_digits 256 0 (drop n q)) counts)
    ∙ digits_div (of_digits 256 0 (take n q)) below
    ∙ ap (of_digits 256 0) (take-take n 8 l k)

module _ (count n at : ℕ) (s : List ℕ) (e : n ≡ bit_bytes count) (few : n ≤ 8) (a : AreBytes s) (h : at + 8 ≤ length s) (x : ℕ) (q : x ≡ of_digits 256 0 (take 8 (drop at s))) where
  first : x / 2 ^ (64 - 8 * n) ≡ of_digits 256 0 (take n (drop at s))
  first = ap (λ (y : ℕ). y / 2 ^ (64 - 8 * n)) q ∙ front (drop at s) n (all_drop _ at s a) (simp length-drop (omega arith)) few

  pub begins-flags : (x / 2 ^ (64 - 8 * n)) % ((1 * 2 ^ (8 * n - count)) % 2 ^ 64) ≡ 0
      → Begins Binary2 count s at (Ok (record { flags = x / 2 ^ (64 - 8 * n) / ((1 * 2 ^ (8 * n - count)) % 2 ^ 64); cells = at + n }))
  begins-flags z =
      let m : n ≤ length s - at = omega arith in
      begun-binary2 s at count (record { word = _; next = _ })
      (record {
        found = start-good count at n s e m (x / 2 ^ (64 - 8 * n)) first a z;
        within = (omega arith, omega arith, start-few count at n s e m (x / 2 ^ (64 - 8 * n)) first a);
      })
