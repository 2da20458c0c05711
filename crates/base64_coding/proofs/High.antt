-- Characters from 128 on. A text that has one is no base64, since what decodes is white space and what some bytes are encoded as; and the
-- highest byte of a text tells whether it has one.
use Prim.Native.Nat.{◌+◌, ◌<◌, ◌≤◌, suc, zero, ℕ}
use native.Mathlib.Decide.{dec_le}
use native.Mathlib.Nat.{lt_of_not-le}
use native.Mathlib.Omega.{arith}
use mathlib.Core.Bool.{Bool, cond, false, false≢true, true}
use mathlib.Core.List.{List, [], ◌∷◌}
use mathlib.Core.Path.{◌∙◌, ◌≡◌, ap, refl, subst, sym}
use lib.Dec.{ltb}
use lib.ListN.{drop, get_or, length}
use borrow.Author.Tests.{ltb-false, ltb-true}
use Rattle.base64_rules.proofs.Laws.{Only, decode-only, encode-bytes, exact, fine, only}
use Rattle.base64_rules.specs.Base64.{decode, dense}
use Rattle.base64_coding.proofs.Fours.{Run}
use Rattle.base64_coding.specs.Clauses.{Low, highest_from}
use Rattle.table.proofs.Laws.{all_drop, no-white}
use Rattle.table.proofs.Places.{done, next1}
use Rattle.table.specs.Bytes.{is_white}
use Rattle.table.specs.Result.{Result, bad, good}

pub low-at : (s : List ℕ) (k : ℕ) → Low s → k < length s → get_or s k 0 < 128
low-at [] k a h = absurd (omega arith)
low-at (c ∷ s) zero a h = a.0
low-at (c ∷ s) (suc k) a h = low-at s k a.1 (omega arith)

low-dense : (s : List ℕ) → Low s → Low (dense s)
unfolding dense
low-dense [] h = tt
low-dense (c ∷ s) h = go (is_white c) (low-dense s h.1)
  where
    go : (w : Bool) → Low (dense s) → Low (cond w (dense s) (c ∷ dense s))
    go true more = more
    go false more = (h.0, more)

-- the next four characters, white space aside
pub four_low : (s : List ℕ) (i a b c d j : ℕ) → Low s → Run s i (a ∷ b ∷ c ∷ d ∷ []) j → (a < 128) × (b < 128) × (c < 128) × (d < 128)
four_low s i a b c d j h u =
    let low = subst Low u.rest (low-dense (drop i s) (all_drop _ i s h)) in
    (low.0, low.1.0, low.1.1.0, low.1.1.1.0)

-- ---- what decodes

white_low : (c : ℕ) → is_white c ≡ true → c < 128
white_low c h = elim (dec_le 128 c) [ yes k ↦ absurd (false≢true (sym (no-white c (omega arith)) ∙ h)) | no k ↦ lt_of_not-le k ]

dense-low : (s : List ℕ) → Low (dense s) → Low s
unfolding dense
dense-low [] h = tt
dense-low (c ∷ s) h = go (is_white c) refl h (dense-low s)
  where
    go : (w : Bool) → is_white c ≡ w → Low (cond w (dense s) (c ∷ dense s)) → (Low (dense s) → Low s) → Low (c ∷ s)
    go true e h more = (white_low c e, more h)
    go false e h more = (h.0, more h.1)

pub decoded-low : (s b : List ℕ) → decode s ≡ good b → Low s
decoded-low s b e = let x = (exact s b).0 e in dense-low s (subst Low (sym x.0) (encode-bytes b x.1))

-- ---- the highest byte

highest-least : (most : ℕ) (s : List ℕ) → most ≤ highest_from most s
unfolding highest_from
highest-least most [] = omega arith
highest-least most (c ∷ s) = go (ltb most c) refl (highest-least (cond (ltb most c) c most) s)
  where
    go : (b : Bool) → ltb most c ≡ b → cond b c most ≤ highest_from (cond b c most) s → most ≤ highest_from (cond b c most) s
    go true e h = let l = ltb-true most c e in omega arith
    go false e h = h

pub highest-low : (most : ℕ) (s : List ℕ) → highest_from most s < 128 → Low s
unfolding highest_from
highest-low most [] h = tt
highest-low most (c ∷ s) h = (go (ltb most c) refl h (highest-least (cond (ltb most c) c most) s), highest-low (cond (ltb most c) c most) s h)
  where
    go : (b : Bool) → ltb most c ≡ b → highest_from (cond b c most) s < 128 → cond b c most ≤ highest_from (cond b c most) s → c < 128
    go true e h l = omega arith
    go false e h l = let m = ltb-false most c e in omega arith

low-highest : (most : ℕ) (s : List ℕ) → most < 128 → Low s → highest_from most s < 128
unfolding highest_from
low-highest most [] h a = h
low-highest most (c ∷ s) h a = low-highest (cond (ltb most c) c most) s (go (ltb most c)) a.1
  where
    go : (b : Bool) → cond b c most < 128
    go true = a.0
    go false = h

-- a character from 128 on is no letter, nor anything else that may stand in a text
pub high-refused : (s : List ℕ) → 128 ≤ highest_from 0 s → decode s ≡ bad 7
high-refused s h = go (decode s) refl (decode-only s)
  where
    go : (r : Result ℕ (List ℕ)) → decode s ≡ r → Only 7 r → r ≡ bad 7
    go (good b) e fine = let l = low-highest 0 s (omega arith) (decoded-low s b e) in absurd (omega arith)
    go (bad n) e only = refl

-- one byte more
pub highest-more : (s : List ℕ) (k most next : ℕ) → k < length s → next ≡ cond (ltb most (get_or s k 0)) (get_or s k 0) most
    → highest_from most (drop k s) ≡ highest_from next (drop (k + 1) s)
unfolding highest_from
highest-more s k most next h e = ap (highest_from most) (next1 s k h) ∙ ap (λ (m : ℕ). highest_from m (drop (k + 1) s)) (sym e)

pub highest-end : (s : List ℕ) (k most : ℕ) → length s ≤ k → highest_from most (drop k s) ≡ most
unfolding highest_from
highest-end s k most h = ap (highest_from most) (done s k h)
