-- Eight bytes as one number, an operation at a time: which of them are written as themselves, and how many stand at the front.
use Prim.Native.Nat.{◌+◌, ◌<◌, ◌≤◌, suc, zero, ℕ}
use native.Mathlib.Omega.{arith}
use mathlib.Core.Bool.{Bool, cond, false, true}
use mathlib.Core.List.{List, [], ◌∷◌, map}
use mathlib.Core.Path.{◌∙◌, ◌≡◌, ap, ap₂, refl}
use lib.Bits.{and_le_r, and_lt, bit_and, bit_or, bit_xor, or_lt, xor_lt}
use lib.Dec.{eqb, lit<}
use lib.ListN.{drop, length, length-take, replicate, take}
use borrow.Author.Tests.{eqb-true}
use Rattle.content_showing.specs.Showing.{is_itself}
use Rattle.eights.proofs.Lanes.{add-lanes, and-lanes, eight-of, map-agree, or-lanes, themselves, xor-lanes}
use Rattle.eights.specs.Marks.{mark, run}
use Rattle.number.specs.Number.{of_digits}
use Rattle.table.proofs.Laws.{each_below}
use Rattle.table.specs.All.{AreBytes}
use Rattle.table.specs.Bytes.{between}

-- ---- a number whose bytes are made of those of another, each of the one in its place

record Lane (ds : List ℕ) (f : ℕ → ℕ) (x : ℕ) : Type 0 where
  bytes : AreBytes ds
  value : x ≡ of_digits 256 0 (map f ds)
  small : (d : ℕ) → d < 256 → f d < 256

lane_and : {ds : List ℕ} {x y : ℕ} (f g : ℕ → ℕ) → Lane ds f x → Lane ds g y → Lane ds (λ d. bit_and (f d) (g d)) (bit_and x y)
lane_and {ds} f g u v = record {
  bytes = u.bytes;
  value = ap₂ bit_and u.value v.value ∙ and-lanes f g u.small v.small ds u.bytes;
  small = λ d h. and_lt 8 (f d) (g d) (u.small d h) (v.small d h);
}

lane_or : {ds : List ℕ} {x y : ℕ} (f g : ℕ → ℕ) → Lane ds f x → Lane ds g y → Lane ds (λ d. bit_or (f d) (g d)) (bit_or x y)
lane_or {ds} f g u v = record {
  bytes = u.bytes;
  value = ap₂ bit_or u.value v.value ∙ or-lanes f g u.small v.small ds u.bytes;
  small = λ d h. or_lt 8 (f d) (g d) (u.small d h) (v.small d h);
}

lane_xor : {ds : List ℕ} {x y : ℕ} (f g : ℕ → ℕ) → Lane ds f x → Lane ds g y → Lane ds (λ d. bit_xor (f d) (g d)) (bit_xor x y)
lane_xor {ds} f g u v = record {
  bytes = u.bytes;
  value = ap₂ bit_xor u.value v.value ∙ xor-lanes f g u.small v.small ds u.bytes;
  small = λ d h. xor_lt 8 (f d) (g d) (u.small d h) (v.small d h);
}

-- a sum that stays within its byte
lane-add : {ds : List ℕ} {x y : ℕ} (f g : ℕ → ℕ) → ((d : ℕ) → d < 256 → f d + g d < 256) → Lane ds f x → Lane ds g y → Lane ds (λ d. f d + g d) (x + y)
lane-add {ds} f g s u v = record {
  bytes = u.bytes;
  value = ap₂ ◌+◌ u.value v.value ∙ add-lanes f g u.small v.small ds u.bytes;
  small = s;
}

lane-all : (ds : List ℕ) (v w : ℕ) → AreBytes ds → length ds ≡ 8 → v < 256 → of_digits 256 0 (replicate 8 v) ≡ w → Lane ds (λ d. v) w
lane-all ds v w a l h e = record { bytes = a; value = eight-of v w ds l e; small = λ d k. h }

-- ---- characters that are written as themselves

sum-small : (v : ℕ) → v < 128 → (d : ℕ) → d < 256 → bit_xor (bit_and d 127) v + 127 < 256
sum-small v k d h =
    let l : bit_and d 127 < 128 = omega (arith, and_le_r d 127) in
    omega (arith, xor_lt 7 (bit_and d 127) v l k)

itself-byte : (d : ℕ) → d < 256
    → bit_and (bit_or (bit_xor (bit_and (bit_and (bit_and (bit_and d 127 + 96) (bit_xor (bit_and d 127) 38 + 127)) (bit_xor (bit_and d 127) 60 + 127)) (bit_xor (bit_and d 127) 62 + 127)) 128) d) 128
    ≡ mark is_itself d
unfolding mark is_itself between
itself-byte d h =
    let fine : ℕ → ℕ = λ d. bit_and (bit_and (bit_and (bit_and d 127 + 96) (bit_xor (bit_and d 127) 38 + 127)) (bit_xor (bit_and d 127) 60 + 127)) (bit_xor (bit_and d 127) 62 + 127) in
    eqb-true _ _ (each_below (λ (d : ℕ). eqb (bit_and (bit_or (bit_xor (fine d) 128) d) 128) (mark is_itself d)) 256 refl d h)

pub text-marked : (x : ℕ) (ds : List ℕ) → length ds ≡ 8 → AreBytes ds → x ≡ of_digits 256 0 ds
    → bit_and (bit_or (bit_xor (bit_and (bit_and (bit_and (bit_and x 9187201950435737471 + 6944656592455360608)
    (bit_xor (bit_and x 9187201950435737471) 2748926567846913574 + 9187201950435737471)) (bit_xor (bit_and x 9187201950435737471) 4340410370284600380 + 9187201950435737471))
    (bit_xor (bit_and x 9187201950435737471) 4485090715960753726 + 9187201950435737471)) 9259542123273814144) x) 9259542123273814144
    ≡ of_digits 256 0 (map (mark is_itself) ds)
text-marked x ds l a e =
    let own : Lane ds (λ d. d) x = record { bytes = a; value = e ∙ themselves ds; small = λ d h. h } in
    let rest : Lane ds (λ d. 127) 9187201950435737471 = lane-all ds 127 _ a l (lit< tt) (unfold of_digits in refl) in
    let tops : Lane ds (λ d. 128) 9259542123273814144 = lane-all ds 128 _ a l (lit< tt) (unfold of_digits in refl) in
    let low : Lane ds (λ d. bit_and d 127) (bit_and x 9187201950435737471) = lane_and (λ d. d) (λ d. 127) own rest in
    let high : Lane ds (λ d. bit_and d 127 + 96) (bit_and x 9187201950435737471 + 6944656592455360608) =
    lane-add (λ d. bit_and d 127) (λ d. 96) (λ d h. omega (arith, and_le_r d 127)) low (lane-all ds 96 6944656592455360608 a l (lit< tt) (unfold of_digits in refl)) in
    let unlike : (v w : ℕ) → v < 128 → of_digits 256 0 (replicate 8 v) ≡ w
    → Lane ds (λ d. bit_xor (bit_and d 127) v + 127) (bit_xor (bit_and x 9187201950435737471) w + 9187201950435737471) =
    λ v w k q. lane-add (λ d. bit_xor (bit_and d 127) v) (λ d. 127) (sum-small v k) (lane_xor (λ d. bit_and d 127) (λ d. v) low (lane-all ds v w a l (omega arith) q)) rest in
    let amp = unlike 38 2748926567846913574 (lit< tt) (unfold of_digits in refl) in
    let lt = unlike 60 4340410370284600380 (lit< tt) (unfold of_digits in refl) in
    let gt = unlike 62 4485090715960753726 (lit< tt) (unfold of_digits in refl) in
    let fine = lane_and _ _ (lane_and _ _ (lane_and _ _ high amp) lt) gt in
    (lane_and _ _ (lane_or _ _ (lane_xor _ _ fine tops) own) tops).value ∙ ap (of_digits 256 0) (map-agree _ _ itself-byte ds a)

pub sum_fits : (x w : ℕ) → w < 9223372036854775808 → bit_xor (bit_and x 9187201950435737471) w + 9187201950435737471 < 18446744073709551616
sum_fits x w h =
    let l : bit_and x 9187201950435737471 < 9223372036854775808 = omega (arith, and_le_r x 9187201950435737471) in
    omega (arith, xor_lt 63 (bit_and x 9187201950435737471) w l h)

-- ---- how many stand at the front

module _ (test : ℕ → Bool) where
  run-less : (m : ℕ) (d : List ℕ) → run test (take m d) ≤ run test d
  unfolding run
  run-less zero d = omega arith
  run-less (suc m) [] = omega arith
  run-less (suc m) (b ∷ d) = by (test b) (run-less m d)
    where
      by : (t : Bool) → run test (take m d) ≤ run test d → cond t (suc (run test (take m d))) 0 ≤ cond t (suc (run test d)) 0
      by true h = omega arith
      by false h = omega arith

  pub run_more : (d : List ℕ) (k j m : ℕ) → k ≤ run test d → j ≤ run test (take m (drop k d)) → k + j ≤ run test d
  unfolding run
  run_more d zero j m h i = omega (arith, run-less m d)
  run_more [] (suc k) j m h i = absurd (omega arith)
  run_more (b ∷ d) (suc k) j m h i = by (test b) (λ q. run_more d k j m q i) h
    where
      by : (t : Bool) → (k ≤ run test d → k + j ≤ run test d) → suc k ≤ cond t (suc (run test d)) 0 → suc k + j ≤ cond t (suc (run test d)) 0
      by true f q = omega (arith, f (omega arith))
      by false f q = absurd (omega arith)

  pub run-front : (d : List ℕ) (j n : ℕ) → j ≤ n → j ≤ run test d → j ≤ run test (take n d)
  unfolding run
  run-front d zero n l h = omega arith
  run-front d (suc j) zero l h = absurd (omega arith)
  run-front [] (suc j) (suc n) l h = h
  run-front (b ∷ d) (suc j) (suc n) l h = by (test b) (λ q. run-front d j n (omega arith) q) h
    where
      by : (t : Bool) → (j ≤ run test d → j ≤ run test (take n d)) → suc j ≤ cond t (suc (run test d)) 0 → suc j ≤ cond t (suc (run test (take n d))) 0
      by true f q = omega (arith, f (omega arith))
      by false f q = absurd (omega arith)

  pub run-le : (d : List ℕ) → run test d ≤ length d
  unfolding run
  run-le [] = omega arith
  run-le (b ∷ d) = by (test b) (run-le d)
    where
      by : (t : Bool) → run test d ≤ length d → cond t (suc (run test d)) 0 ≤ suc (length d)
      by true h = omega arith
      by false h = omega arith

  pub run-most : (d : List ℕ) (m r : ℕ) → r ≤ run test (take m d) → r ≤ m
  run-most d m r h = omega (arith, run-le (take m d), length-take m d)
