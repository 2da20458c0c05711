-- Bytes written behind bytes: runs of stores join, and a loop that writes keeps that what is still to be written here gives the buffer that
-- the whole gives (`Left`).
use Prim.Native.Nat.{◌+◌, ◌-◌, ◌≤◌, suc, ℕ}
use native.Mathlib.Nat.{add-suc, add-zero, suc-add}
use native.Mathlib.Numerals.{add-one}
use native.Mathlib.Omega.{arith}
use mathlib.Core.List.{List, [], ◌++◌, ◌∷◌, append_assoc}
use mathlib.Core.Path.{◌∙◌, ◌≡◌, ap, ap₂, refl, subst, sym}
use lib.ListN.{drop, length, length-append, set, take}
use lib.Seq.{drop-drop, length-sets, sets, sets-eq}
use borrow.Rule.Slice.PartMut.{put_mid}
use Rattle.table.specs.Wrote.{Wrote}

-- a run of stores, and another from where it ends, is one run
pub sets-append : (xs ys l : List ℕ) (i : ℕ) → sets (sets l i xs) (i + length xs) ys ≡ sets l i (xs ++ ys)
sets-append [] ys l i = simp add-zero
sets-append (x ∷ xs) ys l i = simp (add-suc, ← (suc-add i (length xs))) (sets-append xs ys (set l i x) (suc i))

pub wrote-long : {old new : List ℕ} {at next : ℕ} {b : List ℕ} → Wrote old at b new next → length new ≡ length old
wrote-long {old} {new} {at} {next} {b} w = ap length w.now-is ∙ length-sets old at b

pub wrote_none : (l : List ℕ) (i : ℕ) → Wrote l i [] l i
wrote_none l i = record { now-is = refl; next-is = omega arith }

pub wrote_one : (l : List ℕ) (i v : ℕ) → Wrote l i (v ∷ []) (set l i v) (i + 1)
wrote_one l i v = record { now-is = refl; next-is = refl }

-- bytes copied over a part
pub wrote-part : (l b : List ℕ) (i e : ℕ) → e ≡ i + length b → e ≤ length l → Wrote l i b (put_mid i (e - i) l b) e
wrote-part l b i e n h =
    let long : i + (e - i) ≡ i + length b = omega (arith, n) in
    let behind : drop (e - i) (drop i l) ≡ drop (i + length b) l = drop-drop (e - i) i l ∙ ap (λ (k : ℕ). drop k l) long in
    record { now-is = ap (λ (r : List ℕ). take i l ++ (b ++ r)) behind ∙ sym (append_assoc (take i l) b _) ∙ sym (sets-eq b l i (omega (arith, n, h))); next-is = n }

pub wrote_then_lem : {l l₁ l₂ : List ℕ} {i e₁ e₂ : ℕ} {xs ys : List ℕ} → Wrote l i xs l₁ e₁ → Wrote l₁ e₁ ys l₂ e₂ → Wrote l i (xs ++ ys) l₂ e₂
wrote_then_lem {l} {l₁} {l₂} {i} {e₁} {e₂} {xs} {ys} u v = record {
  now-is = v.now-is ∙ ap₂ (λ (k : List ℕ) (n : ℕ). sets k n ys) u.now-is u.next-is ∙ sets-append xs ys l i;
  next-is = omega (arith, u.next-is, v.next-is, length-append xs ys);
}

pub wrote_after : {l l₁ : List ℕ} {i e y : ℕ} {xs : List ℕ} → Wrote (set l i y) (i + 1) xs l₁ e → Wrote l i (y ∷ xs) l₁ e
wrote_after {l} {l₁} {i} {e} {y} {xs} u = record {
  now-is = u.now-is ∙ ap (λ (k : ℕ). sets (set l i y) k xs) (add-one i);
  next-is = omega (arith, u.next-is);
}

-- the same bytes, otherwise spelled
pub wrote_as : {l l₁ : List ℕ} {i e : ℕ} {xs ys : List ℕ} → xs ≡ ys → Wrote l i xs l₁ e → Wrote l i ys l₁ e
wrote_as {l} {l₁} {i} {e} q u = subst (λ (zs : List ℕ). Wrote l i zs l₁ e) q u

-- ---- a loop that writes: `rest` is still to be written at i

pub record Left (old : List ℕ) (at : ℕ) (whole : List ℕ) (new : List ℕ) (i : ℕ) (rest : List ℕ) : Type 0 where
  pub same_end : sets new i rest ≡ sets old at whole
  pub same_next : i + length rest ≡ at + length whole
  pub same-long : length new ≡ length old

pub left-all : (old : List ℕ) (at : ℕ) (whole : List ℕ) → Left old at whole old at whole
left-all old at whole = record { same_end = refl; same_next = refl; same-long = refl }

pub left_step : {old new newer : List ℕ} {at i j : ℕ} {whole a rest more : List ℕ}
    → Left old at whole new i rest → rest ≡ a ++ more → Wrote new i a newer j → Left old at whole newer j more
left_step {old} {new} {newer} {at} {i} {j} {whole} {a} {rest} {more} p e w = record {
  same_end = ap₂ (λ (l : List ℕ) (n : ℕ). sets l n more) w.now-is w.next-is ∙ sets-append a more new i ∙ ap (sets new i) (sym e) ∙ p.same_end;
  same_next = omega (arith, p.same_next, w.next-is, ap length e, length-append a more);
  same-long = wrote-long w ∙ p.same-long;
}

pub left-none : {old new : List ℕ} {at i : ℕ} {whole rest : List ℕ} → Left old at whole new i rest → rest ≡ [] → Wrote old at whole new i
left-none {old} {new} {at} {i} {whole} {rest} p e = record {
  now-is = ap (sets new i) (sym e) ∙ p.same_end;
  next-is = omega (arith, p.same_next, ap length e);
}

pub left-room : {old new : List ℕ} {at i : ℕ} {whole rest : List ℕ} → Left old at whole new i rest
    → (a more : List ℕ) → rest ≡ a ++ more → at + length whole ≤ length old → i + length a ≤ length new
left-room p a more e h = omega (arith, p.same_next, p.same-long, ap length e, length-append a more)
