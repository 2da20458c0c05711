-- What a step says of its column, and that a cell moved as its step says is moved as its column wants: a step that wants something is of a fixed
-- column, whose cells have no count; bytes that go as they stand are the bytes that their elements are written as.
use Rattle.std.specs.Prelude.{Option, Some, None}
use Prim.Native.Nat.{◌%◌, ◌+◌, ◌≤◌, ℕ}
use native.Mathlib.Nat.{le_refl}
use native.Mathlib.Omega.{arith}
use mathlib.Core.Bool.{Bool, ◌||◌, cond, false, false≢true, true}
use mathlib.Core.List.{List, append-nil}
use mathlib.Core.Path.{◌∙◌, ◌≡◌, ap, refl, sym}
use borrow.Author.Tests.{eqb-true, ne_eqb}
use lib.Dec.{eqb}
use lib.IntN.{ℤ}
use lib.ListN.{drop, length, length-drop, take}
use lib.Seq.{length-take-le}
use Rattle.binary.proofs.Digits.{no-padding}
use Rattle.binary.specs.Binary.{bit_bytes, content_bytes, count_bytes, count_in, elements_bytes}
use Rattle.binary_moving.proofs.Counted.{counted-moved, whole-moved}
use Rattle.binary_moving.specs.Clauses.{NotText, skipped}
use Rattle.cell_putting.proofs.Cells.{elements-around, no_text}
use Rattle.cell_putting.proofs.Elements.{array-never, binary-writes, binary2-writes, bits-never, elements-put}
use Rattle.cell_putting.specs.Clauses.{fill_size, is_text}
use Rattle.content_passing.proofs.Padding.{bits-moved}
use Rattle.content_passing.proofs.Wholes as wholes
use Rattle.moving.proofs.Puts.{puts-as}
use Rattle.moving.specs.Cells.{MovesCell, MovesRead, NeverNull}
use Rattle.moving.specs.Contents.{AsBinary, ContentMoved, InBinary, content_form}
use Rattle.moving.specs.Puts.{Puts}
use Rattle.moving.specs.declared.Moved.{Moved}
use Rattle.number.specs.Clauses.{is_signed, width_of}
use Rattle.number.specs.declared.Integer.{Integer}
use Rattle.planned_moving.specs.Clauses.{PassesBytes}
use Rattle.planning.specs.Plan.{one_integer, step_for, step_of, want_of}
use Rattle.planning.specs.declared.Want.{Want}
use Rattle.rows.specs.Stream.{write_cell}
use Rattle.table.specs.All.{AreBytes}
use Rattle.table.specs.Cell.{is_char, shown}
use Rattle.table.specs.Result.{good}
use Rattle.table.specs.Shape.{Bits, Shape, Text, Truths, W1, W2, W4, W8, Whole, Width, shape}
use Rattle.table.specs.declared.Column.{Column}
use Rattle.table.specs.declared.Kind.{Kind}
use Rattle.table.specs.declared.Len.{Len}
use Rattle.table.specs.declared.Len.TheVariants.{Bounded, Fixed, Free}
use Rattle.table.specs.declared.Rows.{Rows}

-- ---- tests

pub neither : (a b : Bool) → (a || b) ≡ false → (a ≡ false) × (b ≡ false)
neither false b h = (refl, h)
neither true b h = absurd (false≢true (sym h))

-- ---- wants that are told apart

abbrev pub wants_bytes : Option Want → Bool
wants_bytes None = false
wants_bytes (Some Want.Bytes) = true
wants_bytes (Some (Want.Integer integer)) = false

abbrev pub wants_integer : Option Want → Bool
wants_integer None = false
wants_integer (Some Want.Bytes) = false
wants_integer (Some (Want.Integer integer)) = true

abbrev integer_in : Option Want → Integer
integer_in None = Integer.Long
integer_in (Some Want.Bytes) = Integer.Long
integer_in (Some (Want.Integer integer)) = integer

-- ---- a step that wants something is of a fixed column

pub record OfFixed (c : Column) : Type 0 where
  pub n : ℕ
  pub len_is : c.len ≡ Fixed n
  pub want_is : (step_of c).want ≡ want_of (shape c.kind) n
  pub bytes-is : (step_of c).bytes ≡ content_bytes (shape c.kind) n
  pub null_is : (step_of c).null ≡ c.null

pub of-fixed : (c : Column) (w : Option Want) → (step_of c).want ≡ w → (None ≡ w → ⊥) → OfFixed c
unfolding step_for
of-fixed c w e other = go c.len refl
  where
    go : (len : Len) → c.len ≡ len → OfFixed c
    go (Fixed n) q = record { n = n; len_is = q; want_is = rw q; bytes-is = rw q; null_is = rw q }
    go (Bounded n) q = absurd (other (sym (ap (λ (l : Len). (step_for c.kind l c.null).want) q) ∙ e))
    go Free q = absurd (other (sym (ap (λ (l : Len). (step_for c.kind l c.null).want) q) ∙ e))

-- one integer: a scalar of that kind
one_of : (b : Bool) (j integer : Integer) → cond b (Some (Want.Integer j)) (Some Want.Bytes) ≡ Some (Want.Integer integer) → (b ≡ true) × (j ≡ integer)
one_of true j integer h = (refl, ap integer_in h)
one_of false j integer h = absurd (false≢true (ap wants_integer h))

bits-want : (b : Bool) (integer : Integer) → cond b (Some Want.Bytes) None ≡ Some (Want.Integer integer) → ⊥
bits-want true integer h = false≢true (ap wants_integer h)
bits-want false integer h = false≢true (ap wants_integer h)

pub integer-wanted : (kind : Kind) (n : ℕ) (integer : Integer) → want_of (shape kind) n ≡ Some (Want.Integer integer) → (n ≡ 1) × (shape kind ≡ Whole (is_signed integer) (width_of integer))
unfolding want_of
integer-wanted Kind.Boolean n integer h = absurd (false≢true (ap wants_integer h))
integer-wanted Kind.Bit n integer h = absurd (bits-want (eqb (n % 8) 0) integer h)
integer-wanted Kind.Char n integer h = absurd (false≢true (ap wants_integer h))
integer-wanted Kind.UnsignedByte n integer h = let o = one_of (eqb n 1) Integer.UnsignedByte integer h in (eqb-true n 1 o.0, ap (λ (j : Integer). Whole (is_signed j) (width_of j)) o.1)
integer-wanted Kind.Short n integer h = let o = one_of (eqb n 1) Integer.Short integer h in (eqb-true n 1 o.0, ap (λ (j : Integer). Whole (is_signed j) (width_of j)) o.1)
integer-wanted Kind.Int n integer h = let o = one_of (eqb n 1) Integer.Int integer h in (eqb-true n 1 o.0, ap (λ (j : Integer). Whole (is_signed j) (width_of j)) o.1)
integer-wanted Kind.Long n integer h = let o = one_of (eqb n 1) Integer.Long integer h in (eqb-true n 1 o.0, ap (λ (j : Integer). Whole (is_signed j) (width_of j)) o.1)

-- ---- bytes as they stand

-- of a fixed column that is not of characters
fixed-form : (c : Column) (n : ℕ) (es : List ℤ) → c.len ≡ Fixed n → is_char (shape c.kind) ≡ false → content_form (shape c.kind) es ≡ elements_bytes c es
unfolding count_bytes fill_size
fixed-form c n es q k = sym (elements-around c es (length es) refl ∙ rw (q, k, append-nil))

not-one : (v : Width) (b : Bool) → cond b (Some (one_integer v)) (Some Want.Bytes) ≡ Some Want.Bytes → b ≡ false
not-one v false h = refl
not-one W1 true h = absurd (false≢true (ap wants_bytes h))
not-one W2 true h = absurd (false≢true (ap wants_bytes h))
not-one W4 true h = absurd (false≢true (ap wants_bytes h))
not-one W8 true h = absurd (false≢true (ap wants_bytes h))

all-bits : (b : Bool) → cond b (Some Want.Bytes) None ≡ Some Want.Bytes → b ≡ true
all-bits true h = refl
all-bits false h = absurd (false≢true (ap wants_bytes h))

-- what passes: no element stands for null, no characters, and the elements that stand in the input are the bytes
record Passing (c : Column) (n m : ℕ) (s old : List ℕ) (at o : ℕ) (new : List ℕ) (e : ℕ) : Type 0 where
  never : NeverNull c
  no_char : is_char (shape c.kind) ≡ false
  moved : ContentMoved (InBinary (shape c.kind) n s at) (AsBinary (shape c.kind)) old o new n (at + m) e

passing : (c : Column) (n m : ℕ) (s old : List ℕ) (at o : ℕ) (new : List ℕ) (e : ℕ) → c.len ≡ Fixed n → want_of (shape c.kind) n ≡ Some Want.Bytes → m ≡ content_bytes (shape c.kind) n
    → AreBytes s → at + m ≤ length s → Puts old o (take m (drop at s)) new e → Passing c n m s old at o new e
unfolding want_of content_bytes bit_bytes
passing c n m s old at o new e q w size a h u = go (shape c.kind) refl w size
  where
    go : (k : Shape) → shape c.kind ≡ k → want_of k n ≡ Some Want.Bytes → m ≡ content_bytes k n → Passing c n m s old at o new e
    go Truths k w size = absurd (false≢true (ap wants_bytes w))
    go Text k w size = absurd (false≢true (ap wants_bytes w))
    go Bits k w size =
        let full : n % 8 ≡ 0 = eqb-true (n % 8) 0 (all-bits (eqb (n % 8) 0) w) in
        let l : length (take m (drop at s)) ≡ m = length-take-le m (drop at s) (simp length-drop (omega arith)) in
        record {
          never = bits-never c k;
          no_char = rw k;
          moved = rw k (bits-moved n m s old new at o e a size h (no-padding (take m (drop at s)) n (omega (arith, l, size, full))) u);
        }
    go (Whole g v) k w size = record {
      never = array-never c (rw q (not-one v (eqb n 1) w));
      no_char = rw k;
      moved = rw k (wholes.whole-moved g v n m s old new at o e a size h u);
    }

no-text-writes : (to : Rows) (c : Column) (es : List ℤ) → is_text to ≡ false → 1 ≤ length es → write_cell to c (shown es) ≡ good (elements_bytes c es)
no-text-writes to c es t k = no_text (λ (rows : Rows). write_cell rows c (shown es) ≡ good (elements_bytes c es)) to t (binary-writes c es k) (binary2-writes c es)

pub bytes-moved : (from to : Rows) (c : Column) (n m : ℕ) (s old : List ℕ) (at o : ℕ) (new : List ℕ) (e : ℕ) → is_text to ≡ false → c.len ≡ Fixed n → 1 ≤ n → want_of (shape c.kind) n ≡ Some Want.Bytes
    → m ≡ content_bytes (shape c.kind) n → AreBytes s → at + m ≤ length s → Puts old o (take m (drop at s)) new e
    → MovesRead (InBinary (shape c.kind) n s at) from to c old o new (Some (record { next = at + m; end = e; null = false }))
bytes-moved from to c n m s old at o new e t q some w size a h u =
    let p = passing c n m s old at o new e q w size a h u in
    let x = p.moved in
    let k : 1 ≤ length x.es = omega (arith, x.count-is) in
    elements-put (InBinary (shape c.kind) n s at) from c p.never old o new (at + m) x.es x.reads k to (no-text-writes to c x.es t k) (Some (record { next = at + m; end = e; null = false }))
    (record { puts = puts-as (x.writes ∙ fixed-form c n x.es q p.no_char) x.puts; same_next = refl; not_null = refl })

-- ---- a cell with no count, and no flag

not-text : (from : Rows) → is_text from ≡ false → NotText from
not-text from h = no_text NotText from h tt tt

unskipped : (from : Rows) (n : ℕ) → 1 ≤ n → is_text from ≡ false → skipped from false n ≡ false
unfolding skipped
unskipped from n k h = no_text (λ (rows : Rows). skipped rows false n ≡ false) from h (ne_eqb n 0 (λ z. omega arith)) refl

pub fixed_moved : (from to : Rows) (c : Column) (n : ℕ) (s : List ℕ) (place : ℕ) (old : List ℕ) (o : ℕ) (new : List ℕ) (r : Option Moved) → is_text from ≡ false → c.len ≡ Fixed n → 1 ≤ n
    → place + content_bytes (shape c.kind) n ≤ length s → MovesRead (InBinary (shape c.kind) n s place) from to c old o new r → MovesCell from to c false s place old o new r
unfolding count_in
fixed_moved from to c n s place old o new r h q k room m =
    whole-moved from to c false n s place place old o new r (not-text from h) (rw q) (le_refl place)
    (counted-moved from to c false n s place old o new r room (not-text from h) (unskipped from n k h) m)

-- bytes that went as they stand
pub passed-moved : (from to : Rows) (c : Column) (n m : ℕ) (s : List ℕ) (place : ℕ) (old : List ℕ) (o : ℕ) (new : List ℕ) (r : Option Moved) → is_text from ≡ false → c.len ≡ Fixed n → 1 ≤ n
    → want_of (shape c.kind) n ≡ Some Want.Bytes → m ≡ content_bytes (shape c.kind) n → AreBytes s → place + m ≤ length s → PassesBytes to m s place old o new r
    → MovesCell from to c false s place old o new r
passed-moved from to c n m s place old o new (Some r) t q some w size a h p =
    let there : place + content_bytes (shape c.kind) n ≤ length s = omega (arith, size) in
    fixed_moved from to c n s place old o new (Some r) t q some there
    (rw (p.1, p.2) (bytes-moved from to c n m s old place o new r.end p.0 q some w size a h p.3))
passed-moved from to c n m s place old o new None t q some w size a h p = p
