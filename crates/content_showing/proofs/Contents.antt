-- A content by its kind, and one that has no elements.
use Rattle.std.specs.Prelude.{Option}
use Prim.Native.Nat.{◌≤◌, ℕ}
use native.Mathlib.Omega.{arith}
use mathlib.Core.List.{List, []}
use mathlib.Core.Path.{◌∙◌, ◌≡◌, ap, refl, subst, sym}
use lib.ListN.{drop, length, take}
use Rattle.binary.specs.Binary.{all_zero, before_nul, bit_bytes, bits_of, content, content_bytes, numbers, numbers_in, unpack}
use Rattle.moving.proofs.Puts.{puts_none}
use Rattle.moving.specs.Contents.{AsText, ContentMoved, InBinary, MovesContent}
use Rattle.moving.specs.declared.Content.{Content}
use Rattle.table.specs.Result.{every, good}
use Rattle.table.specs.Shape.{Bits, Shape, Text, Truths, Whole}
use Rattle.tabledata.specs.TableData.{element_bytes, element_text, forms, spaced}

bytes-none : (k : Shape) → content_bytes k 0 ≡ 0
unfolding content_bytes bit_bytes
bytes-none Truths = refl
bytes-none Bits = refl
bytes-none (Whole g v) = omega arith
bytes-none Text = refl

content-none : (k : Shape) (s : List ℕ) → content k 0 (take 0 s) ≡ good []
unfolding content numbers_in numbers unpack all_zero bits_of before_nul every
content-none Truths s = refl
content-none Bits s = refl
content-none (Whole g v) s = refl
content-none Text s = refl

text-none : (k : Shape) → element_text k [] ≡ good []
unfolding element_text element_bytes spaced forms
text-none Truths = refl
text-none Bits = refl
text-none (Whole g v) = refl
text-none Text = refl

pub none-moved : (k : Shape) (n : ℕ) (s : List ℕ) (at : ℕ) (row : List ℕ) (o : ℕ) → n ≡ 0 → o ≤ length row
    → ContentMoved (InBinary k n s at) (AsText k) row o row 0 at o
none-moved k n s at row o e h = record {
  es = [];
  bytes = [];
  reads = record {
    elements = ap (λ (m : ℕ). content k m (take (content_bytes k m) (drop at s))) e ∙ ap (λ (j : ℕ). content k 0 (take j (drop at s))) (bytes-none k) ∙ content-none k (drop at s);
    next-is = omega (arith, ap (content_bytes k) e ∙ bytes-none k);
  };
  writes = text-none k;
  puts = puts_none row o h;
  count-is = refl;
}

-- what is moved as one kind is moved as the kind that this is
pub moved_as : (n at o : ℕ) (s old new : List ℕ) (r : Option Content) (k j : Shape) → j ≡ k
    → MovesContent (InBinary k n s at) (AsText k) old o new r → MovesContent (InBinary j n s at) (AsText j) old o new r
moved_as n at o s old new r k j e m = subst (λ (i : Shape). MovesContent (InBinary i n s at) (AsText i) old o new r) (sym e) m

pub bytes-as : (k j : Shape) (n : ℕ) → j ≡ k → content_bytes j n ≡ content_bytes k n
bytes-as k j n e = ap (λ (i : Shape). content_bytes i n) e
