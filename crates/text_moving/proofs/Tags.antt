-- A cell's tags, by the number of their first four bytes: how it begins, and that it ends.
use Rattle.std.specs.Prelude.{Some}
use Prim.Native.Nat.{◌+◌, ◌≤◌, ℕ}
use native.Mathlib.Nat.{le_refl}
use native.Mathlib.Omega.{arith}
use mathlib.Core.Bool.{Bool, ◌&&◌, true}
use mathlib.Core.List.{List, [], ◌++◌, ◌∷◌}
use mathlib.Core.Path.{◌∙◌, ◌≡◌, ap, ap₂, refl, sym}
use lib.Dec.{lit<, ltb}
use borrow.Author.Tests.{ltb-true}
use lib.ListN.{drop, get_or, length, length-drop, take, take-append-drop}
use lib.Seq.{drop-drop, get_or-drop, length-take-le, take-suc}
use Rattle.number.proofs.Laws.{to-of}
use Rattle.number.specs.Number.{of_digits, to_digits}
use Rattle.table.proofs.Laws.{all_drop, all_take, and_both}
use Rattle.table.proofs.Places.{next1}
use Rattle.table.specs.All.{AreBytes}
use Rattle.table.specs.Bytes.{after, bytes, ends, is_white, skip_white, tag}
use Rattle.table.specs.Result.{good}
use Rattle.tabledata.specs.TableData.{cell_text, characters, close-TD, follow, open-TD, plain, step}
use Rattle.text.specs.Clauses.{Skipped}
use Rattle.text_moving.specs.Clauses.{ClosesAt, OpensAs}
use Rattle.text_moving.specs.declared.Opening.{Opening}

-- ---- four bytes by their number, and one more

abbrev all_bytes : List ℕ → Bool
all_bytes [] = true
all_bytes (b ∷ w) = ltb b 256 && all_bytes w

bytes_below : (w : List ℕ) → all_bytes w ≡ true → AreBytes w
bytes_below [] e = tt
bytes_below (b ∷ w) e = let q = and_both (ltb b 256) (all_bytes w) e in (ltb-true b 256 q.0, bytes_below w q.1)

module _ (s w : List ℕ) (place : ℕ) (a : AreBytes s) (b : all_bytes w ≡ true) (l : length w ≡ 4) (h : place + 4 ≤ length s) (e : of_digits 256 0 w ≡ of_digits 256 0 (take 4 (drop place s))) where
  four_are : take 4 (drop place s) ≡ w
  four_are =
      let m : length (take 4 (drop place s)) ≡ 4 = length-take-le 4 (drop place s) (simp length-drop (omega arith)) in
      sym (to-of 256 (lit< tt) 0 (take 4 (drop place s)) (all_take _ 4 (drop place s) (all_drop _ place s a)))
      ∙ ap₂ (λ (n x : ℕ). to_digits 256 n x) (m ∙ sym l) (sym e)
      ∙ to-of 256 (lit< tt) 0 w (bytes_below w b)

  pub begins-four : drop place s ≡ w ++ drop (place + 4) s
  begins-four = sym (take-append-drop 4 (drop place s)) ∙ ap₂ (λ (u v : List ℕ). u ++ v) four_are (drop-drop 4 place s)

  pub begins-five : (x : ℕ) → place + 5 ≤ length s → get_or s (place + 4) 0 ≡ x → drop place s ≡ w ++ (x ∷ []) ++ drop (place + 5) s
  begins-five x k f =
      let five : take 5 (drop place s) ≡ w ++ (x ∷ []) =
      take-suc (drop place s) 4 0 (simp length-drop (omega arith)) ∙ ap₂ (λ (u : List ℕ) (b : ℕ). u ++ (b ∷ [])) four_are (get_or-drop place s 4 0 ∙ f) in
      sym (take-append-drop 5 (drop place s)) ∙ ap₂ (λ (u v : List ℕ). u ++ v) five (drop-drop 5 place s)

-- ---- what the tags come to

-- white space before the tag is passed over
after-white : (s t : List ℕ) → skip_white s ≡ t → skip_white t ≡ t → cell_text s ≡ cell_text t
unfolding cell_text
after-white s t e f = rw (e, f)

bare-stays : (r : List ℕ) → skip_white (60 ∷ r) ≡ 60 ∷ r
unfolding skip_white is_white
bare-stays r = refl

bare-start : (r : List ℕ) → cell_text (bytes "<TD>" ++ r) ≡ characters plain r
unfolding cell_text after ends skip_white is_white open-TD
bare-start r = refl

bare-empty : (r : List ℕ) → cell_text (bytes "<TD/>" ++ r) ≡ good ([], r)
unfolding cell_text after ends skip_white is_white open-TD
bare-empty r = refl

bare-end : (r : List ℕ) → characters plain (bytes "</TD>" ++ r) ≡ good ([], r)
unfolding characters step follow tag after ends skip_white is_white close-TD
bare-end r = refl

module _ (s : List ℕ) (at place x : ℕ) (a : AreBytes s) (w : Skipped s at place) (h : place + 5 ≤ length s) (e : x ≡ of_digits 256 0 (take 4 (drop place s))) where
  -- `<TD>`
  pub opens-content : x ≡ 1012155454 → OpensAs s at (Some (Opening.Content (place + 4)))
  opens-content k =
      let d : drop place s ≡ bytes "<TD>" ++ drop (place + 4) s = begins-four s (bytes "<TD>") place a refl refl (omega arith) (unfold of_digits in sym k ∙ e) in
      (after-white (drop at s) (drop place s) w.rest (ap skip_white d ∙ bare-stays _ ∙ sym d) ∙ ap cell_text d ∙ bare-start (drop (place + 4) s), omega (arith, w.low), omega arith)

  -- `<TD/>`
  pub opens-empty : x ≡ 1012155439 → get_or s (place + 4) 0 ≡ 62 → OpensAs s at (Some (Opening.Empty (place + 5)))
  opens-empty k f =
      let d : drop place s ≡ bytes "<TD/>" ++ drop (place + 5) s = begins-five s (bytes "<TD/") place a refl refl (omega arith) (unfold of_digits in sym k ∙ e) 62 h f in
      (after-white (drop at s) (drop place s) w.rest (ap skip_white d ∙ bare-stays _ ∙ sym d) ∙ ap cell_text d ∙ bare-empty (drop (place + 5) s), omega (arith, w.low), omega arith)

-- `</TD>`
pub closes_at : (s : List ℕ) (at x : ℕ) → AreBytes s → at + 5 ≤ length s → x ≡ of_digits 256 0 (take 4 (drop at s)) → x ≡ 1009734724 → get_or s (at + 4) 0 ≡ 62 → ClosesAt s at
closes_at s at x a h e k f =
    record {
      closed = ap (characters plain) (begins-five s (bytes "</TD") at a refl refl (omega arith) (unfold of_digits in sym k ∙ e) 62 h f) ∙ bare-end (drop (at + 5) s);
      inside = h;
    }

-- no white space
pub bare-skipped : (s : List ℕ) (at : ℕ) → at + 1 ≤ length s → get_or s at 0 ≡ 60 → Skipped s at at
bare-skipped s at h e =
    let d : drop at s ≡ 60 ∷ drop (at + 1) s = next1 s at (omega arith) ∙ ap (λ (b : ℕ). b ∷ drop (at + 1) s) e in
    record { rest = ap skip_white d ∙ bare-stays (drop (at + 1) s) ∙ sym d; low = le_refl at; high = omega arith }
