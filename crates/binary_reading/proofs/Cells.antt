-- A cell by its parts: what is read after the count, and what is written for elements that fill their room.
use Prim.Native.Nat.{◌*◌, ◌+◌, ◌-◌, ◌<◌, ◌≤◌, suc, zero, ℕ}
use Rattle.binary.proofs.Digits.{take-of-sets}
use Rattle.binary.proofs.Laws.{flagged-unread}
use Rattle.binary.proofs.Loops.{length-integers}
use Rattle.binary.specs.Binary.{all_zero, before_nul, bit_bytes, bits_of, content, content_bytes, count_in, element, first_bytes, numbers, numbers_in, read_binary, read_binary2, shows, unpack}
use Rattle.binary_reading.specs.Clauses.{Fills}
use Rattle.binary.specs.Reading.{integers, read_counted}
use Rattle.number.specs.Clauses.{size}
use Rattle.number.specs.Number.{of_digits}
use Rattle.table.specs.Cell.{Cell, empty_is_null, is_null_list, null, show, shown, stands_for_null}
use Rattle.table.specs.Clauses.{FoundWithin, Reads}
use Rattle.table.specs.Outcome.{at}
use Rattle.table.specs.Result.{Result, ◌>>=◌, bad, every, good}
use Rattle.table.specs.Shape.{Bits, Shape, Text, Truths, Whole, Width, last, shape}
use Rattle.table.specs.declared.Column.{Column}
use Rattle.table.specs.declared.Found.{Found}
use Rattle.table.specs.declared.Reason.{Reason}
use Rattle.std.specs.Prelude.{Result as Returned, Ok, Err}
use borrow.Author.Tests.{le-ltb, lt-ltb}
use lib.IntN.{ℤ}
use lib.ListN.{drop, length, length-drop, take}
use lib.Seq.{drop-drop, length-take-le, sets, take_all}
use mathlib.Core.Bool.{Bool, false, true}
use mathlib.Core.List.{List, [], ◌∷◌}
use mathlib.Core.Path.{◌∙◌, ◌≡◌, ap, ap₂, refl, sym}
use native.Mathlib.Nat.{le_refl}
use native.Mathlib.Omega.{arith}

-- ---- what is read

pub fills-as : {a b : Result ℕ (List ℤ)} {m n : ℕ} {entry exit : List ℤ} {r : Returned ℕ Reason} → a ≡ b → m ≡ n → Fills b m entry exit r → Fills a n entry exit r
fills-as {r = Ok k} p q f = record { found = p ∙ f.found; within = rw (← q) f.within; long = f.long }
fills-as {r = Err e} p q f = record { found = p ∙ f.found; within = tt; long = f.long }

numbers-bytes : (s : List ℕ) → numbers 1 (length s) s ≡ s
unfolding numbers of_digits
numbers-bytes [] = refl
numbers-bytes (b ∷ s) = ap₂ (λ (x : ℕ) (xs : List ℕ). x ∷ xs) (let e : 0 * 256 + b ≡ b = omega arith in e) (numbers-bytes s)

pub none_in : (k : Shape) (s : List ℕ) → length s ≡ content_bytes k 0 → content k 0 s ≡ good []
unfolding all_zero before_nul bit_bytes bits_of content content_bytes every numbers numbers_in unpack
none_in Truths s h = refl
none_in Bits [] h = refl
none_in Bits (b ∷ s) h = absurd (omega arith)
none_in (Whole g v) s h = refl
none_in Text [] h = refl
none_in Text (b ∷ s) h = absurd (omega arith)

-- no elements take no bytes, and are none
pub content-none : (k : Shape) (n : ℕ) (s : List ℕ) (entry : List ℤ) → n ≡ 0 → length s ≡ content_bytes k n → Fills (content k n s) n entry entry (Ok 0)
content-none k n s entry e h =
    rw e (record { found = none_in k s (rw (← e) h); within = le_refl 0; long = refl })

pub content-truths : (n : ℕ) (s : List ℕ) → length s ≡ n → content Truths n s ≡ every (element Truths) s
unfolding content numbers_in
content-truths n s h = rw (← h, numbers-bytes s)

pub content-text : (n : ℕ) (s : List ℕ) → content Text n s ≡ every (element Text) (before_nul s)
unfolding content numbers_in
content-text n s = refl

whole_numbers : (g : Bool) (v : Width) (n : ℕ) (s : List ℕ) → every (element (Whole g v)) (numbers (suc (last v)) n s) ≡ good (integers g (suc (last v)) n s)
unfolding numbers integers every element
whole_numbers g v zero s = refl
whole_numbers g v (suc n) s = rw (whole_numbers g v n (drop (suc (last v)) s))

pub content-whole : (g : Bool) (v : Width) (n : ℕ) (s : List ℕ) → content (Whole g v) n s ≡ good (integers g (suc (last v)) n s)
unfolding content numbers_in
content-whole g v n s = whole_numbers g v n s

pub whole-filled : (g : Bool) (v : Width) (n : ℕ) (s : List ℕ) (entry exit : List ℤ) → n ≤ length entry → length exit ≡ length entry
    → exit ≡ sets entry 0 (integers g (suc (last v)) n s) → Fills (content (Whole g v) n s) n entry exit (Ok n)
whole-filled g v n s entry exit h l q =
    let m : length (integers g (suc (last v)) n s) ≡ n = length-integers g (suc (last v)) n s in record {
      found = content-whole g v n s ∙ ap good (sym (ap (take n) q ∙ take-of-sets n (integers g (suc (last v)) n s) entry (omega arith) (omega arith)
          ∙ take_all n (integers g (suc (last v)) n s) (omega arith)));
      within = le_refl n;
      long = l;
    }

module _ (c : Column) (flagged : Bool) (n at size : ℕ) (s : List ℕ) (e : size ≡ content_bytes (shape c.kind) n) where
  pub counted-short : length s - at < size → read_counted c flagged n (drop at s) ≡ bad 8
  unfolding read_counted first_bytes
  counted-short h = rw (← e, length-drop at s, lt-ltb (length s - at) size h)

  module _ (h : size ≤ length s - at) where
    counted-at : read_counted c flagged n (drop at s) ≡ (shows c flagged n (take size (drop at s)) >>= λ x. good (x, drop (at + size) s))
    unfolding read_counted first_bytes
    counted-at = rw (← e, length-drop at s, le-ltb (length s - at) size h, drop-drop size at s)

    pub counted-flagged : flagged ≡ true → read_counted c flagged n (drop at s) ≡ good (null, drop (at + size) s)
    counted-flagged f = counted-at ∙ rw (f, flagged-unread c n (take size (drop at s)))

    module _ (f : flagged ≡ false) (p : List ℕ) (q : p ≡ take size (drop at s)) where
      pub counted-bad : (k : ℕ) → content (shape c.kind) n p ≡ bad k → read_counted c flagged n (drop at s) ≡ bad k
      unfolding shows
      counted-bad k r = counted-at ∙ rw (f, ← q, r)

      counted-good : (es : List ℤ) → content (shape c.kind) n p ≡ good es → read_counted c flagged n (drop at s) ≡ good (show c es, drop (at + size) s)
      unfolding shows
      counted-good es r = counted-at ∙ rw (f, ← q, r)

      pub counted-null : (es : List ℤ) → content (shape c.kind) n p ≡ good es → is_null_list (stands_for_null c) es ≡ true
          → read_counted c flagged n (drop at s) ≡ good (null, drop (at + size) s)
      unfolding show
      counted-null es r t = counted-good es r ∙ rw t

      pub counted-shown : (es : List ℤ) → content (shape c.kind) n p ≡ good es → is_null_list (stands_for_null c) es ≡ false
          → read_counted c flagged n (drop at s) ≡ good (shown es, drop (at + size) s)
      unfolding show
      counted-shown es r t = counted-good es r ∙ rw t

module _ (c : Column) (flagged : Bool) (t : List ℕ) where
  pub binary2-uncounted : (k : ℕ) → count_in c.len t ≡ bad k → read_binary2 c flagged t ≡ bad k
  unfolding read_binary2
  binary2-uncounted k e = rw e

  pub binary2-counted : (n : ℕ) (u : List ℕ) → count_in c.len t ≡ good (n, u) → read_binary2 c flagged t ≡ read_counted c flagged n u
  unfolding read_binary2 read_counted
  binary2-counted n u e = rw e

within-from : (s : List ℕ) (place next : ℕ) (scratch : List ℤ) (r : Returned Found Reason) → place ≤ next → FoundWithin s next scratch r → FoundWithin s place scratch r
within-from s place next scratch (Ok f) h w = (omega (arith, w.0), w.1, w.2)
within-from s place next scratch (Err e) h w = tt

pub reads-from : {a b : Result ℕ (Cell × List ℕ)} {s : List ℕ} {place next : ℕ} {entry exit : List ℤ} {r : Returned Found Reason}
    → a ≡ b → place ≤ next → Reads b s next entry exit r → Reads a s place entry exit r
reads-from {s = s} {place = place} {next = next} {exit = exit} {r = r} p h x =
    record { found = p ∙ x.found; within = within-from s place next exit r h x.within; long = x.long }

module _ (c : Column) (t u : List ℕ) where
  pub binary-null : read_binary2 c false t ≡ good (null, u) → read_binary c t ≡ good (null, u)
  unfolding read_binary empty_is_null
  binary-null e = rw e

  pub binary-bad : (k : ℕ) → read_binary2 c false t ≡ bad k → read_binary c t ≡ bad k
  unfolding read_binary
  binary-bad k e = rw e

  pub binary-empty : (es : List ℤ) → read_binary2 c false t ≡ good (shown es, u) → length es ≡ 0 → read_binary c t ≡ good (null, u)
  unfolding read_binary empty_is_null
  binary-empty [] e h = rw e
  binary-empty (x ∷ es) e h = absurd (omega arith)

  pub binary-shown : (es : List ℤ) → read_binary2 c false t ≡ good (shown es, u) → (length es ≡ 0 → ⊥) → read_binary c t ≡ good (shown es, u)
  unfolding read_binary empty_is_null
  binary-shown [] e h = absurd (h refl)
  binary-shown (x ∷ es) e h = rw e

-- the part of a text from a place on
pub part-is : (s : List ℕ) (at size : ℕ) → take ((at + size) - at) (drop at s) ≡ take size (drop at s)
part-is s at size = let e : (at + size) - at ≡ size = omega arith in rw e

pub part_length : (s : List ℕ) (at size : ℕ) → size ≤ length s - at → length (take ((at + size) - at) (drop at s)) ≡ size
part_length s at size h = rw (part-is s at size) (length-take-le size (drop at s) (simp length-drop h))
