-- Eight bytes as one number: what an operation does to the number it does to each byte, so a test of eight bytes is a test of one, which is computed.
use Prim.Native.Nat.{◌+◌, ◌<◌, ℕ}
use mathlib.Core.Bool.{Bool, true}
use mathlib.Core.List.{List, map}
use mathlib.Core.Path.{◌∙◌, ◌≡◌, ap, ap₂, refl}
use lib.Bits.{and_lt, bit_and, bit_or, bit_xor, or_lt, xor_lt}
use lib.Dec.{eqb, lit<, ltb}
use lib.ListN.{length, replicate}
use borrow.Author.Tests.{eqb-true, ltb-true}
use Rattle.integer_reading.specs.Figures.{is_bit, is_digit}
use Rattle.eights.proofs.Lanes.{add-lanes, and-lanes, eight-of, map-agree, or-lanes, themselves, xor-lanes}
use Rattle.eights.specs.Marks.{mark}
use Rattle.number.specs.Number.{of_digits}
use Rattle.table.proofs.Laws.{all_below, each_below}
use Rattle.table.specs.All.{AreBytes}
use Rattle.tabledata.specs.Clauses.{is_plain}
use Rattle.table.specs.Bytes.{between}

-- x is what f makes of each byte
pub record Bytewise (ds : List ℕ) (x : ℕ) (f : ℕ → ℕ) : Type 0 where
  pub is : x ≡ of_digits 256 0 (map f ds)
  pub small : (d : ℕ) → d < 256 → f d < 256

module _ (ds : List ℕ) (l : length ds ≡ 8) (a : AreBytes ds) where
  pub own : {x : ℕ} → x ≡ of_digits 256 0 ds → Bytewise ds x (λ (d : ℕ). d)
  own e = record { is = e ∙ themselves ds; small = λ d h. h }

  -- one byte eight times
  pub eight : (v : ℕ) {x : ℕ} → of_digits 256 0 (replicate 8 v) ≡ x → v < 256 → Bytewise ds x (λ (d : ℕ). v)
  eight v {x} e h = record { is = eight-of v x ds l e; small = λ d _. h }

  module _ {x y : ℕ} {f g : ℕ → ℕ} (p : Bytewise ds x f) (q : Bytewise ds y g) where
    pub both : Bytewise ds (bit_and x y) (λ (d : ℕ). bit_and (f d) (g d))
    both = record { is = ap₂ bit_and p.is q.is ∙ and-lanes f g p.small q.small ds a; small = λ d h. and_lt 8 (f d) (g d) (p.small d h) (q.small d h) }

    pub either : Bytewise ds (bit_or x y) (λ (d : ℕ). bit_or (f d) (g d))
    either = record { is = ap₂ bit_or p.is q.is ∙ or-lanes f g p.small q.small ds a; small = λ d h. or_lt 8 (f d) (g d) (p.small d h) (q.small d h) }

    pub differing : Bytewise ds (bit_xor x y) (λ (d : ℕ). bit_xor (f d) (g d))
    differing = record { is = ap₂ bit_xor p.is q.is ∙ xor-lanes f g p.small q.small ds a; small = λ d h. xor_lt 8 (f d) (g d) (p.small d h) (q.small d h) }

    -- no byte of the sum passes 255
    pub sum : all_below (λ (d : ℕ). ltb (f d + g d) 256) 256 ≡ true → Bytewise ds (x + y) (λ (d : ℕ). f d + g d)
    sum e = record {
      is = ap₂ ◌+◌ p.is q.is ∙ add-lanes f g p.small q.small ds a;
      small = λ d h. ltb-true _ _ (each_below (λ (d : ℕ). ltb (f d + g d) 256) 256 e d h);
    }

  pub marked : (test : ℕ → Bool) {x : ℕ} {f : ℕ → ℕ} → Bytewise ds x f → all_below (λ (d : ℕ). eqb (f d) (mark test d)) 256 ≡ true → x ≡ of_digits 256 0 (map (mark test) ds)
  marked test {f = f} p e = p.is ∙ ap (of_digits 256 0) (map-agree f (mark test) (λ d h. eqb-true _ _ (each_below (λ (d : ℕ). eqb (f d) (mark test d)) 256 e d h)) ds a)

  -- ---- which bytes stand for themselves

  pub tops : Bytewise ds 9259542123273814144 (λ (d : ℕ). 128)
  unfolding of_digits
  tops = eight 128 refl (lit< tt)

  pub rest : Bytewise ds 9187201950435737471 (λ (d : ℕ). 127)
  unfolding of_digits
  rest = eight 127 refl (lit< tt)

  pub plain-marked : (x : ℕ) → x ≡ of_digits 256 0 ds
      → bit_and (bit_or (bit_xor (bit_and (bit_and (bit_and x 9187201950435737471 + 6944656592455360608) (bit_xor (bit_and x 9187201950435737471) 2748926567846913574 + 9187201950435737471))
      (bit_xor (bit_and x 9187201950435737471) 4340410370284600380 + 9187201950435737471)) 9259542123273814144) x) 9259542123273814144 ≡ of_digits 256 0 (map (mark is_plain) ds)
  unfolding of_digits mark is_plain between
  plain-marked x e =
      let low = both (own e) rest in
      let fine = both (both (sum low (eight 96 refl (lit< tt)) refl) (sum (differing low (eight 38 refl (lit< tt))) rest refl)) (sum (differing low (eight 60 refl (lit< tt))) rest refl) in
      marked is_plain (both (either (differing fine tops) (own e)) tops) refl

  -- ---- which bytes are bits

  pub bits-marked : (x : ℕ) → x ≡ of_digits 256 0 ds
      → bit_and (bit_or (bit_and (bit_xor x 3472328296227680304) 9187201950435737471 + 9114861777597660798) (bit_xor x 3472328296227680304)) 9259542123273814144 ≡ of_digits 256 0
      (map (mark is_bit) ds)
  unfolding of_digits mark is_bit between
  bits-marked x e =
      let t = differing (own e) (eight 48 refl (lit< tt)) in
      marked is_bit (both (either (sum (both t rest) (eight 126 refl (lit< tt)) refl) t) tops) refl

  -- ---- which bytes are digits

  pub digits-marked : (x : ℕ) → x ≡ of_digits 256 0 ds
      → bit_and (bit_or (bit_and (bit_xor x 3472328296227680304) 9187201950435737471 + 8536140394893047414) (bit_xor x 3472328296227680304)) 9259542123273814144 ≡ of_digits 256 0
      (map (mark is_digit) ds)
  unfolding of_digits mark is_digit between
  digits-marked x e =
      let t = differing (own e) (eight 48 refl (lit< tt)) in
      marked is_digit (both (either (sum (both t rest) (eight 118 refl (lit< tt)) refl) t) tops) refl
