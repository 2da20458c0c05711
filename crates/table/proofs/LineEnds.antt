-- Line ends: what 2.11 makes of a text has no 13, and a text that has none is left as it is. White space, words and tags are read alike before and
-- after: a reader that looks for them gives the same of both texts, and leaves of the one what 2.11 makes of what it leaves of the other.
use Prim.Native.Nat.{◌≤◌, suc, ℕ}
use native.Mathlib.Nat.{le_refl}
use native.Mathlib.Omega.{arith}
use mathlib.Core.Bool.{Bool, ◌&&◌, cond, false, false≢true, not, true}
use mathlib.Core.List.{List, [], ◌++◌, ◌∷◌}
use mathlib.Core.Path.{◌∙◌, ◌≡◌, ap, refl, sym}
use lib.Dec.{eqb}
use lib.ListN.{length}
use borrow.Author.Tests.{eqb-false, eqb-true, ne_eqb, not-true}
use Rattle.table.proofs.Laws.{NoWhite, all_append, and_both, cond_cases}
use Rattle.table.specs.All.{All}
use Rattle.table.specs.Bytes.{after, bytes, ends, is_white, skip_white, tag}
use Rattle.table.specs.LineEnds.{feed_first, line_ends}
use Rattle.table.specs.Result.{Result, ◌>>=◌, bad, good, or_else, refused_as}

-- no carriage return
abbrev pub NoReturn : List ℕ → Type 0
NoReturn s = All (λ (b : ℕ). b ≡ 13 → ⊥) s

-- the same as a test, for bytes that are known
abbrev pub has_no_return : List ℕ → Bool
has_no_return [] = true
has_no_return (b ∷ s) = not (eqb b 13) && has_no_return s

pub none-has-return : (s : List ℕ) → has_no_return s ≡ true → NoReturn s
none-has-return [] h = tt
none-has-return (b ∷ s) h =
    let k = and_both (not (eqb b 13)) (has_no_return s) h in
    (eqb-false b 13 (not-true (eqb b 13) k.0), none-has-return s k.1)

pub no-return-append : (s t : List ℕ) → NoReturn s → NoReturn t → NoReturn (s ++ t)
no-return-append s t h k = all_append (λ (b : ℕ). b ≡ 13 → ⊥) s t h k

-- ---- a text and its line ends

-- "the two-character sequence #xD #xA"
pub return-feed : (s : List ℕ) → line_ends (13 ∷ 10 ∷ s) ≡ 10 ∷ line_ends s
unfolding line_ends feed_first
return-feed s = refl

pub return-goes : (s : List ℕ) → feed_first s ≡ true → line_ends (13 ∷ s) ≡ line_ends s
unfolding line_ends
return-goes s h = rw h

-- "any #xD that is not followed by #xA"
pub return_alone : (s : List ℕ) → feed_first s ≡ false → line_ends (13 ∷ s) ≡ 10 ∷ line_ends s
unfolding line_ends
return_alone s h = rw h

pub other-kept : (b : ℕ) (s : List ℕ) → (b ≡ 13 → ⊥) → line_ends (b ∷ s) ≡ b ∷ line_ends s
unfolding line_ends
other-kept b s h = rw (ne_eqb b 13 h)

-- a text's first byte: a 13 before a 10, another 13, or no 13
pub first-cases : (P : ℕ → Type 0) (b : ℕ) (s : List ℕ) → (feed_first s ≡ true → P 13) → (feed_first s ≡ false → P 13) → ((b ≡ 13 → ⊥) → P b) → P b
first-cases P b s goes alone other = go (eqb b 13) refl (feed_first s) refl
  where
    go : (x : Bool) → eqb b 13 ≡ x → (y : Bool) → feed_first s ≡ y → P b
    go true e true f = rw (eqb-true b 13 e) (goes f)
    go true e false f = rw (eqb-true b 13 e) (alone f)
    go false e y f = other (eqb-false b 13 e)

-- no 13 is left
pub no_return : (s : List ℕ) → NoReturn (line_ends s)
unfolding line_ends
no_return [] = tt
no_return (b ∷ s) =
    cond_cases NoReturn (eqb b 13) _ _ (λ _. cond_cases NoReturn (feed_first s) _ _ (λ _. no_return s) (λ _. ((λ e. omega arith), no_return s)))
    (λ n. (eqb-false b 13 n, no_return s))

-- a text that has none is left as it is
pub line-ends-kept : (s : List ℕ) → NoReturn s → line_ends s ≡ s
line-ends-kept [] h = unfold line_ends in refl
line-ends-kept (b ∷ s) h = other-kept b s h.0 ∙ ap (λ (t : List ℕ). b ∷ t) (line-ends-kept s h.1)

-- nothing is added
pub line-ends-le : (s : List ℕ) → length (line_ends s) ≤ length s
unfolding line_ends
line-ends-le [] = le_refl 0
line-ends-le (b ∷ s) =
    let h : length (line_ends s) ≤ length s = line-ends-le s in
    cond_cases (λ (t : List ℕ). length t ≤ suc (length s)) (eqb b 13) _ _
    (λ _. cond_cases (λ (t : List ℕ). length t ≤ suc (length s)) (feed_first s) _ _ (λ _. omega arith) (λ _. omega arith))
    (λ _. omega arith)

-- behind a 13 the text begins with a 10
feed-first : (s : List ℕ) → feed_first s ≡ true → (t : List ℕ) × (s ≡ 10 ∷ t)
unfolding feed_first
feed-first [] h = absurd (false≢true h)
feed-first (b ∷ s) h = (s, ap (λ (x : ℕ). x ∷ s) (eqb-true b 10 h))

pub return-first : (s : List ℕ) → (t : List ℕ) × (line_ends (13 ∷ s) ≡ 10 ∷ t)
return-first s = go (feed_first s) refl
  where
    go : (y : Bool) → feed_first s ≡ y → (t : List ℕ) × (line_ends (13 ∷ s) ≡ 10 ∷ t)
    go true f = let t = feed-first s f in (line_ends t.0, ap (λ (u : List ℕ). line_ends (13 ∷ u)) t.1 ∙ return-feed t.0)
    go false f = (line_ends s, return_alone s f)

-- ---- a chain of readers

-- what is given, as g has it
abbrev pub given_as : {E A B : Type 0} → (A → B) → Result E A → Result E B
given_as g r = r >>= λ a. good (g a)

pub given-then : {E A B : Type 0} (g : A → A) (h : B → B) (r : Result E A) (f : A → Result E B) → ((a : A) → f (g a) ≡ given_as h (f a)) → (given_as g r >>= f) ≡ given_as h (r >>= f)
given-then g h (good a) f e = e a
given-then g h (bad n) f e = refl

-- a reader's answer with the line ends of what it leaves
module _ {E A : Type 0} where
  abbrev pub rest_ends : Result E (A × List ℕ) → Result E (A × List ℕ)
  rest_ends r = given_as (λ p. (p.0, line_ends p.1)) r

  pub rest-else : (r q : Result E (A × List ℕ)) → or_else (rest_ends r) (rest_ends q) ≡ rest_ends (or_else r q)
  rest-else (good p) q = refl
  rest-else (bad n) q = refl

  pub rest-as : {F : Type 0} (k : E → F) (r : Result E (A × List ℕ)) → refused_as k (rest_ends r) ≡ given_as (λ p. (p.0, line_ends p.1)) (refused_as k r)
  rest-as k (good p) = refl
  rest-as k (bad n) = refl

module _ {E B : Type 0} where
  -- a tag, and then a reader
  pub tag-then : (r : Result E (List ℕ)) (f : List ℕ → Result E (B × List ℕ)) → ((t : List ℕ) → f (line_ends t) ≡ rest_ends (f t)) → (given_as line_ends r >>= f) ≡ rest_ends (r >>= f)
  tag-then r f e = given-then line_ends _ r f e

  -- a reader, and then another
  pub rest_then : {A : Type 0} (r : Result E (A × List ℕ)) (f : A × List ℕ → Result E (B × List ℕ)) → ((p : A × List ℕ) → f (p.0, line_ends p.1) ≡ rest_ends (f p))
      → (rest_ends r >>= f) ≡ rest_ends (r >>= f)
  rest_then r f e = given-then (λ p. (p.0, line_ends p.1)) _ r f e

-- ---- white space, words, tags

pub skip-ends : (s : List ℕ) → skip_white (line_ends s) ≡ line_ends (skip_white s)
unfolding skip_white is_white
skip-ends [] = unfold line_ends in refl
skip-ends (b ∷ s) =
    first-cases (λ (c : ℕ). skip_white (line_ends (c ∷ s)) ≡ line_ends (skip_white (c ∷ s))) b s
    (λ f. ap skip_white (return-goes s f) ∙ skip-ends s)
    (λ f. ap skip_white (return_alone s f) ∙ skip-ends s)
    (λ n. ap skip_white (other-kept b s n) ∙ go (is_white b) n (skip-ends s))
  where
    go : (w : Bool) → (b ≡ 13 → ⊥) → skip_white (line_ends s) ≡ line_ends (skip_white s)
        → cond w (skip_white (line_ends s)) (b ∷ line_ends s) ≡ line_ends (cond w (skip_white s) (b ∷ s))
    go true n ih = ih
    go false n ih = sym (other-kept b s n)

-- a byte that is not white is no 10 and no 13
not_white : (w b : ℕ) → is_white w ≡ false → is_white b ≡ true → eqb w b ≡ false
not_white w b h k = ne_eqb w b (λ e. false≢true (sym h ∙ ap is_white e ∙ k))

pub after-ends : (n : ℕ) (word s : List ℕ) → NoWhite word → after n word (line_ends s) ≡ given_as line_ends (after n word s)
unfolding after
after-ends n [] s a = refl
after-ends n (w ∷ word) [] a = unfold line_ends in refl
after-ends n (w ∷ word) (b ∷ s) a =
    first-cases (λ (c : ℕ). after n (w ∷ word) (line_ends (c ∷ s)) ≡ given_as line_ends (after n (w ∷ word) (c ∷ s))) b s
    (λ _. at_return)
    (λ _. at_return)
    (λ k. ap (after n (w ∷ word)) (other-kept b s k) ∙ go (eqb w b) (after-ends n word s a.1))
  where
    -- the word is in neither text
    at_return : after n (w ∷ word) (line_ends (13 ∷ s)) ≡ given_as line_ends (after n (w ∷ word) (13 ∷ s))
    at_return = unfold after in
        ap (after n (w ∷ word)) (return-first s).1
        ∙ rw (not_white w 10 a.0 (unfold is_white in refl), not_white w 13 a.0 (unfold is_white in refl))

    go : (x : Bool) → after n word (line_ends s) ≡ given_as line_ends (after n word s)
        → cond x (after n word (line_ends s)) (bad n) ≡ given_as line_ends (cond x (after n word s) (bad n))
    go true ih = ih
    go false ih = refl

pub ends-ends : (n : ℕ) (word s : List ℕ) → NoWhite word → ends n word (line_ends s) ≡ given_as line_ends (ends n word s)
unfolding ends
ends-ends n word s a = ap (after n word) (skip-ends s) ∙ after-ends n word (skip_white s) a

pub tag-ends : (n : ℕ) (word s : List ℕ) → NoWhite word → tag n word (line_ends s) ≡ given_as line_ends (tag n word s)
unfolding tag
tag-ends n word s a =
    ap (λ (r : Result ℕ (List ℕ)). r >>= λ t. ends n (bytes ">") t) (after-ends n word s a)
    ∙ given-then line_ends line_ends (after n word s) (ends n (bytes ">")) (λ t. ends-ends n (bytes ">") t (unfold is_white in (refl, tt)))
