-- Encoding, three bytes a turn.
use Prim.Native.Nat.{◌*◌, ◌+◌, ◌/◌, ◌<◌, ◌≤◌, suc, zero, ℕ}
use native.Mathlib.Nat.{add_comm, add-zero, suc-mul, zero-mul}
use native.Mathlib.Numerals.{towards_suc}
use native.Mathlib.Omega.{arith}
use mathlib.Core.List.{List, [], ◌∷◌}
use mathlib.Core.Path.{◌∙◌, ◌≡◌, ap, refl, subst, sym}
use lib.ListN.{drop, get_or, length, take}
use lib.Seq.{drop-cons, drop-drop, get_or-drop, length-sets, sets}
use Rattle.std.proofs.lemmas.List.{get_or-take}
use Rattle.std.specs.Simd.{first_chunks}
use Rattle.base64_rules.specs.Base64.{encode}
use Rattle.table.proofs.Wrote.{sets-append}
use Rattle.base64_letters.specs.Letters.{letters_of}

next3 : (s : List ℕ) (i : ℕ) → i + 3 ≤ length s → drop i s ≡ get_or s i 0 ∷ get_or s (i + 1) 0 ∷ get_or s (i + 2) 0 ∷ drop (i + 3) s
next3 s i h =
    simp towards_suc
    (drop-cons s i 0 (omega arith)
    ∙ ap (◌∷◌ (get_or s i 0)) (drop-cons s (suc i) 0 (omega arith) ∙ ap (◌∷◌ (get_or s (suc i) 0)) (drop-cons s (suc (suc i)) 0 (omega arith))))

-- ---- threes

-- the chunks of a slice as arrays: the k-th stands n times k places on
pub chunk_at : (n m k : ℕ) (s : List ℕ) → k < m → get_or (first_chunks n m s) k [] ≡ take n (drop (k * n) s)
chunk_at n zero k s h = absurd (omega arith)
chunk_at n (suc m) zero s h = ap (λ (i : ℕ). take n (drop i s)) (sym (zero-mul n))
chunk_at n (suc m) (suc k) s h =
    chunk_at n m k (drop n s) (omega arith) ∙ ap (take n) (drop-drop (k * n) n s ∙ ap (λ (i : ℕ). drop i s) (add_comm n (k * n) ∙ sym (suc-mul k n)))

-- and its j-th number j places further
pub number-at : (n m k j : ℕ) (s : List ℕ) → k < m → j < n → get_or (get_or (first_chunks n m s) k []) j 0 ≡ get_or s (k * n + j) 0
number-at n m k j s h g =
    ap (λ (l : List ℕ). get_or l j 0) (chunk_at n m k s h) ∙ get_or-take n (drop (k * n) s) j 0 g ∙ get_or-drop (k * n) s j 0

-- ---- letters stored

-- four numbers, one by one
pub four-of : (v : List ℕ) → length v ≡ 4 → get_or v 0 0 ∷ get_or v 1 0 ∷ get_or v 2 0 ∷ get_or v 3 0 ∷ [] ≡ v
four-of [] h = absurd (omega arith)
four-of (w ∷ []) h = absurd (omega arith)
four-of (w ∷ x ∷ []) h = absurd (omega arith)
four-of (w ∷ x ∷ y ∷ []) h = absurd (omega arith)
four-of (w ∷ x ∷ y ∷ z ∷ []) h = refl
four-of (w ∷ x ∷ y ∷ z ∷ a ∷ v) h = absurd (omega arith)

-- ---- what is left, stored from o on, makes the whole

pub record Kept (s old left out : List ℕ) (o : ℕ) : Type 0 where
  pub same-long : length out ≡ length old
  pub room : o + length (encode left) ≤ length out
  pub whole : sets out o (encode left) ≡ sets old 0 (encode s)

pub kept-all : (s old : List ℕ) → length (encode s) ≤ length old → Kept s old s old 0
kept-all s old h = record { same-long = refl; room = omega arith; whole = refl }

module _ {s old out : List ℕ} {k o : ℕ} (w : Kept s old (drop (k * 3) s) out o) (h : k < length s / 3) where
  next : drop (k * 3) s ≡ get_or s (k * 3) 0 ∷ get_or s (k * 3 + 1) 0 ∷ get_or s (k * 3 + 2) 0 ∷ drop ((k + 1) * 3) s
  next = next3 s (k * 3) (omega arith) ∙ ap (λ (i : ℕ). get_or s (k * 3) 0 ∷ get_or s (k * 3 + 1) 0 ∷ get_or s (k * 3 + 2) 0 ∷ drop i s) (omega arith)

  long : length (encode (drop (k * 3) s)) ≡ length (encode (drop ((k + 1) * 3) s)) + 4
  unfolding encode
  long = ap (λ (l : List ℕ). length (encode l)) next ∙ omega arith

  -- for a turn
  pub room4 : o + 4 ≤ length out
  room4 = let l = long in let r = w.room in omega arith

  -- a turn stores four letters, and the rest from there on
  pub kept-turn : {chunks : List (List ℕ)} {r new : List ℕ} → chunks ≡ first_chunks 3 (length s / 3) s
      → r ≡ letters_of (get_or (get_or chunks k []) 0 0) (get_or (get_or chunks k []) 1 0) (get_or (get_or chunks k []) 2 0) → new ≡ sets out o r
      → Kept s old (drop ((k + 1) * 3) s) new (o + 4)
  unfolding letters_of encode
  kept-turn {chunks} {r} {new} c e n =
      let z : get_or s (k * 3 + 0) 0 ≡ get_or s (k * 3) 0 = rw add-zero in
      let at = λ (j : ℕ) (g : j < 3). ap (λ (l : List (List ℕ)). get_or (get_or l k []) j 0) c ∙ number-at 3 (length s / 3) k j s h g in
      let four : new ≡ sets out o (letters_of (get_or s (k * 3) 0) (get_or s (k * 3 + 1) 0) (get_or s (k * 3 + 2) 0)) =
      n ∙ ap (sets out o) (e ∙ (λ i. letters_of ((at 0 (omega arith) ∙ z) i) (at 1 (omega arith) i) (at 2 (omega arith) i))) in
      let m : length new ≡ length out = ap length n ∙ length-sets out o r in
      record {
        same-long = m ∙ w.same-long;
        room = let l = long in let q = w.room in omega arith;
        whole =
            ap (λ (l : List ℕ). sets l (o + 4) (encode (drop ((k + 1) * 3) s))) four
            ∙ sets-append (letters_of (get_or s (k * 3) 0) (get_or s (k * 3 + 1) 0) (get_or s (k * 3 + 2) 0)) (encode (drop ((k + 1) * 3) s)) out o
            ∙ sym (ap (λ (l : List ℕ). sets out o (encode l)) next) ∙ w.whole;
      }

-- behind the last three
pub kept-end : {s old out rest : List ℕ} {k o n : ℕ} → Kept s old (drop (k * 3) s) out o → k ≤ n → n ≤ k → n ≡ length s / 3 → rest ≡ drop (length s / 3 * 3) s
    → Kept s old rest out o
kept-end {s} {old} {out} {rest} {k} {o} {n} w a b c e =
    subst (λ (l : List ℕ). Kept s old l out o) (ap (λ (i : ℕ). drop (i * 3) s) (omega arith) ∙ sym e) w

-- ---- the last ones, filled up with `=`

module _ {s old out : List ℕ} {o : ℕ} where
  pub none-left : (rest : List ℕ) → Kept s old rest out o → length rest < 1 → out ≡ sets old 0 (encode s)
  unfolding encode
  none-left [] w h = w.whole
  none-left (a ∷ t) w h = absurd (omega arith)

  pub some-left : (rest : List ℕ) → Kept s old rest out o → 1 ≤ length rest → length rest < 3 → o + 4 ≤ length out
  unfolding encode
  some-left [] w h g = absurd (omega arith)
  some-left (a ∷ []) w h g = w.room
  some-left (a ∷ b ∷ []) w h g = w.room
  some-left (a ∷ b ∷ c ∷ t) w h g = absurd (omega arith)

  pub one-left : (rest r new : List ℕ) → Kept s old rest out o → 1 ≤ length rest → length rest < 2 → r ≡ letters_of (get_or rest 0 0) 0 0
      → new ≡ sets out o (get_or r 0 0 ∷ get_or r 1 0 ∷ 61 ∷ 61 ∷ []) → new ≡ sets old 0 (encode s)
  unfolding letters_of encode
  one-left [] r new w h g e n = absurd (omega arith)
  one-left (a ∷ []) r new w h g e n = n ∙ (rw (e, add-zero)) ∙ w.whole
  one-left (a ∷ b ∷ t) r new w h g e n = absurd (omega arith)

  pub two-left : (rest r new : List ℕ) → Kept s old rest out o → 2 ≤ length rest → length rest < 3 → r ≡ letters_of (get_or rest 0 0) (get_or rest 1 0) 0
      → new ≡ sets out o (get_or r 0 0 ∷ get_or r 1 0 ∷ get_or r 2 0 ∷ 61 ∷ []) → new ≡ sets old 0 (encode s)
  unfolding letters_of encode
  two-left [] r new w h g e n = absurd (omega arith)
  two-left (a ∷ []) r new w h g e n = absurd (omega arith)
  two-left (a ∷ b ∷ []) r new w h g e n = n ∙ (rw (e, add-zero)) ∙ w.whole
  two-left (a ∷ b ∷ c ∷ t) r new w h g e n = absurd (omega arith)
