-- White space, words and tags at a place of a text, one byte on: what the loops of skip_white, goes_on and same_bytes lean on. All by one
-- unfolding of the definition at the byte that stands there.
use Prim.Native.Nat.{◌+◌, ◌-◌, ◌<◌, ◌≤◌, ℕ}
use native.Mathlib.Omega.{arith}
use mathlib.Core.Bool.{Bool, false, true}
use mathlib.Core.List.{List, [], ◌++◌, ◌∷◌}
use mathlib.Core.Path.{◌∙◌, ◌≡◌, ap, refl, subst, sym}
use lib.Dec.{eqb}
use lib.ListN.{drop, get_or, length, length-drop, take}
use lib.Pointwise.{pointwise}
use lib.Seq.{drop-drop}
use Rattle.std.proofs.lemmas.List.{take_rest}
use Rattle.std.specs.List.{starts_with}
use Rattle.std.specs.Prelude.{cond}
use borrow.Author.Tests.{eqb-true}
use Rattle.table.proofs.Laws.{bad-good}
use Rattle.table.proofs.Places.{done, next1}
use Rattle.table.specs.Bytes.{after, bytes, ends, is_white, same, skip_white, tag}
use Rattle.table.specs.Result.{Result, bad, good}
use Rattle.text.specs.Clauses.{Skipped, TagIs}
use Rattle.std.specs.Prelude.{Option, None, Some}

-- ---- white space

-- `looked` is where the byte was looked at: a place that is not `i` is refused by its value, and not by its form
module _ (s : List ℕ) (i : ℕ) where
  pub skip-more : {looked : ℕ} → i < length s → is_white (get_or s looked 0) ≡ true → looked ≡ i → skip_white (drop i s) ≡ skip_white (drop (i + 1) s)
  unfolding skip_white
  skip-more h w here = rw (next1 s i h) (rw (subst (λ k. is_white (get_or s k 0) ≡ true) here w))

  pub skip-here : {looked : ℕ} → i < length s → is_white (get_or s looked 0) ≡ false → looked ≡ i → skip_white (drop i s) ≡ drop i s
  unfolding skip_white
  skip-here h w here = rw (next1 s i h) (rw (subst (λ k. is_white (get_or s k 0) ≡ false) here w))

  pub skip-end : length s ≤ i → skip_white (drop i s) ≡ drop i s
  unfolding skip_white
  skip-end h = rw (done s i h)

  pub skip-all : length s ≤ i → skip_white (drop i s) ≡ drop (length s) s
  skip-all h = skip-end h ∙ done s i h ∙ sym (done s (length s) (omega arith))

-- ---- a word that the text goes on with

-- what a text goes on with stands at its front
pub after_is : (n : ℕ) (word t r : List ℕ) → after n word t ≡ good r → t ≡ word ++ r
unfolding after
after_is n [] t r e = let q : ◌≡◌ {A = Result ℕ (List ℕ)} (good t) (good r) = e in cc
after_is n (w ∷ word) [] r e = absurd (bad-good e)
after_is n (w ∷ word) (b ∷ t) r e = go (eqb w b) refl (λ k. after_is n word t r k)
  where
    go : (x : Bool) → eqb w b ≡ x → (after n word t ≡ good r → t ≡ word ++ r) → b ∷ t ≡ w ∷ word ++ r
    go true q ih = let h : after n word t ≡ good r = rw q at e in rw (eqb-true w b q) (ap (λ (l : List ℕ). b ∷ l) (ih h))
    go false q ih = absurd (bad-good (rw q at e))

-- the text goes on with the word where its front is the word
pub after-front : (n : ℕ) (word t : List ℕ) → after n word t ≡ cond (starts_with eqb t word) (good (drop (length word) t)) (bad n)
unfolding after
after-front n [] t = refl
after-front n (w ∷ word) [] = refl
after-front n (w ∷ word) (b ∷ t) = go (eqb w b) refl (after-front n word t)
  where
    go : (x : Bool) → eqb w b ≡ x → after n word t ≡ cond (starts_with eqb t word) (good (drop (length word) t)) (bad n)
        → after n (w ∷ word) (b ∷ t) ≡ cond (starts_with eqb (b ∷ t) (w ∷ word)) (good (drop (length word) t)) (bad n)
    go true q more = rw q more
    go false q more = rw q

-- and the place after it is where the word ends
module _ (s word : List ℕ) (at : ℕ) (h : at ≤ length s) where
  pub front-there : starts_with eqb (take (length s - at) (drop at s)) word ≡ true → length word ≤ length (take (length s - at) (drop at s))
      → TagIs (λ n. after n word (drop at s)) s at (Some (at + length word))
  front-there e l =
      let rest = take_rest s at in
      record {
        found = λ n. after-front n word (drop at s) ∙ rw (sym (ap (λ (t : List ℕ). starts_with eqb t word) rest) ∙ e) (ap good (drop-drop (length word) at s));
        within = (omega arith, omega (arith, l, ap length rest, length-drop at s, h));
      }

  pub front-not : starts_with eqb (take (length s - at) (drop at s)) word ≡ false → TagIs (λ n. after n word (drop at s)) s at None
  front-not e = record { found = λ n. after-front n word (drop at s) ∙ rw (sym (ap (λ (t : List ℕ). starts_with eqb t word) (take_rest s at)) ∙ e); within = tt }

-- ---- tags

-- the same answer, of a definition that begins earlier
pub tag-from : {s : List ℕ} {i k : ℕ} {d e : ℕ → Result ℕ (List ℕ)} (r : Option ℕ) → i ≤ k → ((n : ℕ) → e n ≡ d n) → TagIs d s k r → TagIs e s i r
tag-from (Some next) h q t = record { found = λ n. q n ∙ t.found n; within = (omega (arith, t.within.0), t.within.1) }
tag-from None h q t = record { found = λ n. q n ∙ t.found n; within = tt }

-- white space is skipped first
pub ends-from : (w : List ℕ) {s : List ℕ} {i k : ℕ} {r : Option ℕ} → Skipped s i k → TagIs (λ n. after n w (drop k s)) s k r → TagIs (λ n. ends n w (drop i s)) s i r
unfolding ends
ends-from w {r = r} p t = tag-from r p.low (λ n. ap (after n w) p.rest) t

-- a tag whose word is there, and one whose word is not
module _ (w : List ℕ) {s : List ℕ} {i : ℕ} where
  pub tag-there : {j : ℕ} {r : Option ℕ} → TagIs (λ n. after n w (drop i s)) s i (Some j) → TagIs (λ n. ends n (bytes ">") (drop j s)) s j r → TagIs (λ n. tag n w (drop i s)) s i r
  unfolding tag
  tag-there {j} {r} f t = tag-from r f.within.0 (λ n. rw (f.found n)) t

  pub tag-not : TagIs (λ n. after n w (drop i s)) s i None → TagIs (λ n. tag n w (drop i s)) s i None
  unfolding tag
  tag-not f = record { found = λ n. rw (f.found n); within = tt }

-- ---- two texts are the same

pub same-pointwise : (s t : List ℕ) → pointwise eqb s t ≡ same s t
unfolding same
same-pointwise [] [] = refl
same-pointwise [] (b ∷ t) = refl
same-pointwise (a ∷ s) [] = refl
same-pointwise (a ∷ s) (b ∷ t) = rw (same-pointwise s t)
