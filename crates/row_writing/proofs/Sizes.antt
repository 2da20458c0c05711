-- No cell takes more than 100,000 bytes as it is written: at most 4,096 elements, each at most 21 characters and a space, or 8 bytes.
use Prim.Native.Nat.{◌*◌, ◌+◌, ◌/◌, ◌≤◌, suc, zero-le, ℕ}
use native.Mathlib.Omega.{arith}
use mathlib.Core.List.{List, [], ◌∷◌, map}
use mathlib.Core.Path.{◌∙◌, ◌≡◌, ap, sym}
use lib.Dec.{eqb, lit≤}
use lib.IntN.{negsuc, pos, ℤ}
use lib.ListN.{length, length-append, length-map}
use Rattle.binary_writing.proofs.Sizes.{Few, binary-size, binary2-size, shown-few}
use Rattle.binary.proofs.Laws.{length-pack}
use Rattle.binary.specs.Binary.{bit_bytes, write_binary, write_binary2}
use Rattle.number.proofs.Laws.{length_to}
use Rattle.number.proofs.Decimal.{shortest-most}
use Rattle.number.specs.Number.{shortest, to_digits}
use Rattle.row_writing.specs.Clauses.{SizeWithin, most_cell_bytes, start_bytes}
use Rattle.rows.proofs.Laws.{write-cell-fails}
use Rattle.rows.specs.Stream.{write_cell}
use Rattle.table.proofs.Laws.{all_map, bad-good, cond_cases, fails-at, holds-bind, holds-cond, holds-weaken}
use Rattle.table.specs.All.{All}
use Rattle.table.specs.Bytes.{byte, bytes}
use Rattle.table.specs.Cell.{Cell, bound, most_elements, null, shown}
use Rattle.table.specs.Clauses.{ShownUpTo, form_bytes, shown_as, size_as, size_of}
use Rattle.table.specs.Result.{Holds, Result, bad, good, holds, refuses}
use Rattle.table.specs.Shape.{Bits, Shape, Text, Truths, Whole, shape}
use Rattle.table.specs.declared.Column.{Column}
use Rattle.table.specs.declared.Rows.{Rows}
use Rattle.table.specs.declared.Rows.TheVariants.{Binary, Binary2, TableData}
use Rattle.table.specs.declared.Reason.{Reason}
use Rattle.table.specs.Reasons.{number_of}
use Rattle.std.specs.Prelude.{Err, Ok, Option, Result as Returned}
use Rattle.tabledata_writing.proofs.Writing.{truth-long}
use Rattle.tabledata.specs.TableData.{bit_text, close-TD, element_bytes, element_text, escaped, form_of, forms, is_text, open-TD, spaced, tagged, truth_text, write_text}

-- ---- TABLEDATA

spaced-small : (k : ℕ) (ws : List (List ℕ)) → All (λ (w : List ℕ). length w ≤ k) ws → length (spaced ws) ≤ length ws * suc k
unfolding spaced
spaced-small k [] a = zero-le
spaced-small k (w ∷ []) a = omega (arith, a.0)
spaced-small k (w ∷ v ∷ ws) a = omega (arith, a.0, length-append w (32 ∷ spaced (v ∷ ws)), spaced-small k (v ∷ ws) a.1)

escaped-small : (c : ℕ) → length (escaped c) ≤ 5
unfolding escaped
escaped-small c =
    cond_cases (λ (b : List ℕ). length b ≤ 5) (eqb c (byte "&")) _ _ (λ _. lit≤ tt) (λ _.
    cond_cases (λ (b : List ℕ). length b ≤ 5) (eqb c (byte "<")) _ _ (λ _. lit≤ tt) (λ _.
    cond_cases (λ (b : List ℕ). length b ≤ 5) (eqb c (byte ">")) _ _ (λ _. lit≤ tt) (λ _.
    cond_cases (λ (b : List ℕ). length b ≤ 5) (eqb c 13) _ _ (λ _. lit≤ tt) (λ _. lit≤ tt))))

char-small : (e : ℤ) → Holds (λ (b : List ℕ). length b ≤ 5) (form_of e)
unfolding form_of
char-small (pos c) = holds-cond (is_text c) (λ _. holds (escaped-small c)) (λ _. refuses)
char-small (negsuc c) = refuses

forms-small : (es : List ℤ) → Holds (λ (b : List ℕ). length b ≤ length es * 5) (forms es)
unfolding forms
forms-small [] = holds zero-le
forms-small (e ∷ es) = holds-bind (char-small e) (λ b h. holds-bind (forms-small es) (λ r k. holds (omega (arith, length-append b r))))

text-small : (k : Shape) (es : List ℤ) → Holds (λ (b : List ℕ). length b ≤ length es * 22) (element_text k es)
unfolding element_text element_bytes
text-small Truths es = holds {a = spaced (map truth_text es)} (omega (
  arith,
  spaced-small 21 (map truth_text es)
      (all_map _ truth_text (λ z. omega (arith, truth-long z)) es),
  length-map es truth_text,
))
text-small Bits es = holds {a = map bit_text es} (omega (arith, length-map es bit_text))
text-small (Whole g v) es = holds {a = spaced (map shortest es)} (omega (arith, spaced-small 21 (map shortest es) (all_map _ shortest shortest-most es), length-map es shortest))
text-small Text es = holds-weaken (forms-small es) (λ b h. omega arith)

tagged-length : (t : List ℕ) → length (tagged t) ≡ length t + 9
unfolding tagged open-TD close-TD
tagged-length t = ap (λ (n : ℕ). suc (suc (suc (suc n)))) (length-append t (bytes "</TD>")) ∙ omega arith

write-text-small : (c : Column) (x : Cell) → bound c.len ≤ most_elements → Few c x → Holds (λ (b : List ℕ). length b ≤ most_cell_bytes) (write_text c x)
unfolding write_text
write-text-small c null b f = holds (lit≤ tt)
write-text-small c (shown []) b f = refuses
write-text-small c (shown (e ∷ es)) b f =
    holds-bind (text-small (shape c.kind) (e ∷ es)) (λ t k. holds (omega (arith, tagged-length t, f)))

-- ---- of any kind

form_small : (r : Result ℕ (List ℕ)) → length (form_bytes r) ≤ 40000 → Holds (λ (b : List ℕ). length b ≤ most_cell_bytes) r
form_small (good b) h = holds {a = b} (omega arith)
form_small (bad n) h = refuses

pub cell-small : (to : Rows) (c : Column) (x : Cell) → bound c.len ≤ most_elements → Few c x → Holds (λ (b : List ℕ). length b ≤ most_cell_bytes) (write_cell to c x)
unfolding write_cell
cell-small TableData c x b f = write-text-small c x b f
cell-small Binary c x b f = form_small (write_binary c x) (binary-size c x b f)
cell-small Binary2 c x b f = form_small (good (write_binary2 c x)) (binary2-size c x b f)

-- ---- a cell's size

good-within : (n : ℕ) (x : Result ℕ (List ℕ)) → Holds (λ (b : List ℕ). length b ≤ most_cell_bytes) x → good n ≡ size_of x → n ≤ most_cell_bytes
good-within n x (holds {a = b} h) e = let q : n ≡ length b = cc in omega arith
good-within n x refuses e = absurd (bad-good (sym e))

sized-bad : (n : ℕ) (x : Result ℕ (List ℕ)) → bad n ≡ size_of x → x ≡ bad n
sized-bad n (good b) e = absurd (bad-good e)
sized-bad n (bad k) e = let q : n ≡ k = cc in rw q

size-within : (to : Rows) (c : Column) (x : Cell) (r : Returned ℕ Reason) → Holds (λ (b : List ℕ). length b ≤ most_cell_bytes) (write_cell to c x) → size_as r ≡ size_of (write_cell to c x) → SizeWithin r
size-within to c x (Ok n) h e = good-within n (write_cell to c x) h e
size-within to c x (Err r) h e = omega (arith, (fails-at (write-cell-fails to c x) (sized-bad (number_of r) (write_cell to c x) e)).0)

pub sized : (to : Rows) (c : Column) (x : Cell) (r : Returned ℕ Reason) → bound c.len ≤ most_elements → Few c x → size_as r ≡ size_of (write_cell to c x) → (size_as r ≡ size_of (write_cell to c x)) × SizeWithin r
sized to c x r b f e = (e, size-within to c x r (cell-small to c x b f) e)

-- the same of what is shown in a scratch
pub measured : (to : Rows) (c : Column) (o : Option ℕ) (scratch : List ℤ) (r : Returned ℕ Reason) → bound c.len ≤ most_elements → ShownUpTo (bound c.len) o
    → size_as r ≡ size_of (write_cell to c (shown_as scratch o)) → (size_as r ≡ size_of (write_cell to c (shown_as scratch o))) × SizeWithin r
measured to c o scratch r b few e = sized to c (shown_as scratch o) r b (shown-few c o scratch few) e

-- ---- what begins a row that is written

pub start-length-binary2 : (count nulls : ℕ) → length (start_bytes Binary2 count nulls) ≡ (count + 7) / 8
unfolding start_bytes bit_bytes
start-length-binary2 count nulls = length-pack (to_digits 2 count nulls) ∙ ap bit_bytes (length_to 2 count nulls)
