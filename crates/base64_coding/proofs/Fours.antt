-- Characters one after the other, and four at a time.
use Prim.Native.Nat.{◌+◌, ◌<◌, ◌≤◌, ℕ}
use native.Mathlib.Omega.{arith}
use mathlib.Core.Bool.{Bool, cond, false, true}
use mathlib.Core.List.{List, [], ◌++◌, ◌∷◌, append_assoc, append-nil}
use mathlib.Core.Path.{◌∙◌, ◌≡◌, ap, refl, subst, sym}
use lib.ListN.{drop, get_or, length, length-append, take}
use Rattle.std.proofs.lemmas.List.{take_all}
use Rattle.base64_rules.proofs.Laws.{Only, fine, only, three-7}
use Rattle.base64_rules.specs.Base64.{decode, dense, fours, is_pad, last_four, one_byte, sextet, three_bytes, two_bytes}
use Rattle.base64_coding.specs.Clauses.{FourIs, NextIs, before}
use Rattle.std.specs.Prelude.{Option, None, Some}
use Rattle.table.proofs.Places.{done, next1}
use Rattle.table.proofs.Laws.{holds-any, holds-bind}
use Rattle.table.specs.Bytes.{between, is_white, skip_white}
use Rattle.text.specs.Clauses.{Skipped}
use Rattle.table.specs.Result.{Holds, Result, ◌>>=◌, bad, good, holds, refuses}

-- ---- white space

skipped-byte : (s : List ℕ) (b : ℕ) (t : List ℕ) → skip_white s ≡ b ∷ t → dense s ≡ b ∷ dense t
unfolding skip_white dense
skipped-byte [] b t e = let z : ◌≡◌ {A = ℕ} 0 1 = cc in absurd (omega arith)
skipped-byte (c ∷ s) b t e = go (is_white c) e (skipped-byte s b t)
  where
    go : (w : Bool) → cond w (skip_white s) (c ∷ s) ≡ b ∷ t → (skip_white s ≡ b ∷ t → dense s ≡ b ∷ dense t) → cond w (dense s) (c ∷ dense s) ≡ b ∷ dense t
    go true e h = h e
    go false e h = let x : c ≡ b = cc in let y : s ≡ t = cc in rw (x, y)

skipped-all : (s : List ℕ) → skip_white s ≡ [] → dense s ≡ []
unfolding skip_white dense
skipped-all [] e = refl
skipped-all (c ∷ s) e = go (is_white c) e (skipped-all s)
  where
    go : (w : Bool) → cond w (skip_white s) (c ∷ s) ≡ [] → (skip_white s ≡ [] → dense s ≡ []) → cond w (dense s) (c ∷ dense s) ≡ []
    go true e h = h e
    go false e h = let z : ◌≡◌ {A = ℕ} 0 1 = cc in absurd (omega arith)

pub dense-keep : (c : ℕ) (s : List ℕ) → is_white c ≡ false → dense (c ∷ s) ≡ c ∷ dense s
unfolding dense
dense-keep c s h = rw h

-- white space in front gives nothing
dense-skip : (s : List ℕ) → dense s ≡ dense (skip_white s)
unfolding skip_white dense
dense-skip [] = refl
dense-skip (c ∷ s) = go (is_white c) refl (dense-skip s)
  where
    go : (w : Bool) → is_white c ≡ w → dense s ≡ dense (skip_white s) → cond w (dense s) (c ∷ dense s) ≡ dense (cond w (skip_white s) (c ∷ s))
    go true e h = h
    go false e h = sym (dense-keep c s e)

pub white-skipped : (s : List ℕ) (i from : ℕ) → Skipped s i from → decode (drop i s) ≡ decode (drop from s)
unfolding decode
white-skipped s i from p = ap fours (dense-skip (drop i s) ∙ ap dense p.rest)

-- the next byte stands where white space ends
module _ (s : List ℕ) (from i : ℕ) (p : Skipped s from i) where
  pub next-there : i < length s → NextIs s from (Some (get_or s i 0, i + 1))
  next-there h = record { rest = skipped-byte (drop from s) _ _ (p.rest ∙ next1 s i h); places = (omega (arith, p.low), omega arith) }

  pub next-none : length s ≤ i → NextIs s from None
  next-none h = record { rest = skipped-all (drop from s) (p.rest ∙ done s i h); places = tt }

-- ---- characters in a row

-- what is left from i on begins with these characters, and goes on at j
pub record Run (s : List ℕ) (i : ℕ) (cs : List ℕ) (j : ℕ) : Type 0 where
  pub rest : dense (drop i s) ≡ cs ++ dense (drop j s)
  pub far : i + length cs ≤ j
  pub within : j ≤ length s

pub run-start : (s : List ℕ) (i : ℕ) (r : Option (ℕ × ℕ)) (a j : ℕ) → NextIs s i r → r ≡ Some (a, j) → Run s i (a ∷ []) j
run-start s i r a j n e =
    let m : NextIs s i (Some (a, j)) = subst (NextIs s i) e n in
    let p = m.places.0 in let q = m.places.1 in
    record { rest = m.rest; far = omega arith; within = q }

pub run_more : (s : List ℕ) (i : ℕ) (cs : List ℕ) (k : ℕ) (r : Option (ℕ × ℕ)) (a j : ℕ) → Run s i cs k → NextIs s k r → r ≡ Some (a, j) → Run s i (cs ++ (a ∷ [])) j
run_more s i cs k r a j u n e =
    let m : NextIs s k (Some (a, j)) = subst (NextIs s k) e n in
    let p = m.places.0 in let q = m.places.1 in let f = u.far in
    record {
      rest = u.rest ∙ ap (◌++◌ cs) m.rest ∙ sym (append_assoc cs (a ∷ []) _);
      far = rw length-append (omega arith);
      within = q;
    }

-- two, three and four of them, from what is read at each place
module _ {s : List ℕ} {i : ℕ} {ra rb : Option (ℕ × ℕ)} {a ja b jb : ℕ} (na : NextIs s i ra) (ea : ra ≡ Some (a, ja)) (nb : NextIs s ja rb) (eb : rb ≡ Some (b, jb)) where
  pub run-two : Run s i (a ∷ b ∷ []) jb
  run-two = run_more s i (a ∷ []) ja rb b jb (run-start s i ra a ja na ea) nb eb

  module _ {rc : Option (ℕ × ℕ)} {c jc : ℕ} (nc : NextIs s jb rc) (ec : rc ≡ Some (c, jc)) where
    pub run-three : Run s i (a ∷ b ∷ c ∷ []) jc
    run-three = run_more s i (a ∷ b ∷ []) jb rc c jc run-two nc ec

    pub run-four : {rd : Option (ℕ × ℕ)} {d jd : ℕ} → NextIs s jc rd → rd ≡ Some (d, jd) → Run s i (a ∷ b ∷ c ∷ d ∷ []) jd
    run-four {rd} {d} {jd} nd ed = run_more s i (a ∷ b ∷ c ∷ []) jc rd d jd run-three nd ed

-- nothing but white space is left
pub at-end : (s : List ℕ) (k : ℕ) (r : Option (ℕ × ℕ)) → NextIs s k r → r ≡ None → dense (drop k s) ≡ []
at-end s k r n e = (subst (NextIs s k) e n).rest

-- something is
pub at_byte : (s : List ℕ) (k : ℕ) (r : Option (ℕ × ℕ)) (a j : ℕ) → NextIs s k r → r ≡ Some (a, j) → dense (drop k s) ≡ a ∷ dense (drop j s)
at_byte s k r a j n e = (subst (NextIs s k) e n).rest

-- ---- four of them

bind-nil : (r : Result ℕ (List ℕ)) → r ≡ (r >>= λ p. good (p ++ []))
bind-nil (good p) = ap good (sym (append-nil p))
bind-nil (bad n) = refl

pub fours-plain : (a b c d : ℕ) (cs : List ℕ) → is_pad d ≡ false → fours (a ∷ b ∷ c ∷ d ∷ cs) ≡ (three_bytes a b c d >>= λ p. before p (fours cs))
unfolding fours last_four
fours-plain a b c d [] h = rw h (bind-nil (three_bytes a b c d))
fours-plain a b c d (e ∷ cs) h = refl

-- `=` is no letter
not-three : (a b c : ℕ) → Holds (λ (p : List ℕ). ⊥) (three_bytes a b c 61)
unfolding three_bytes sextet between
not-three a b c =
    holds-bind (holds-any (sextet a)) (λ w _. holds-bind (holds-any (sextet b)) (λ x _. holds-bind (holds-any (sextet c)) (λ y _. refuses)))

never : {r : Result ℕ (List ℕ)} → Only 7 r → Holds (λ (p : List ℕ). ⊥) r → r ≡ bad 7
never fine (holds h) = absurd h
never only h = refl

three-pad : (a b c : ℕ) → three_bytes a b c 61 ≡ bad 7
three-pad a b c = never (three-7 a b c 61) (not-three a b c)

of-one : (p : List ℕ) → length p ≡ 1 → take 1 (get_or p 0 0 ∷ 0 ∷ 0 ∷ []) ≡ p
of-one [] l = absurd (omega arith)
of-one (x ∷ []) l = refl
of-one (x ∷ y ∷ p) l = absurd (omega arith)

of-two : (p : List ℕ) → length p ≡ 2 → take 2 (get_or p 0 0 ∷ get_or p 1 0 ∷ 0 ∷ []) ≡ p
of-two [] l = absurd (omega arith)
of-two (x ∷ []) l = absurd (omega arith)
of-two (x ∷ y ∷ []) l = refl
of-two (x ∷ y ∷ z ∷ p) l = absurd (omega arith)

-- an answer of so many bytes is right where the text is those bytes and then what the rest gives
four_is : (s : List ℕ) (i j n : ℕ) (p bytes : List ℕ) (r : Result ℕ (List ℕ)) → n ≤ 3 → i + 4 ≤ j → j ≤ length s → (n < 3 → decode (drop j s) ≡ good [])
    → good p ≡ r → take n bytes ≡ p → decode (drop i s) ≡ (r >>= λ q. before q (decode (drop j s))) → FourIs s i (Some (record { count = n; bytes = bytes; next = j }))
four_is s i j n p bytes r l h k f g t e = record {
  rest = e ∙ ap (λ (q : Result ℕ (List ℕ)). q >>= λ b. before b (decode (drop j s))) (sym g) ∙ ap (λ (b : List ℕ). before b (decode (drop j s))) (sym t);
  places = (l, omega arith, k, f);
}

-- and a refusal where there are none
no_four : (s : List ℕ) (i j : ℕ) (r : Result ℕ (List ℕ)) → bad 7 ≡ r → decode (drop i s) ≡ (r >>= λ q. before q (decode (drop j s))) → FourIs s i None
no_four s i j r g e = record { rest = e ∙ ap (λ (q : Result ℕ (List ℕ)). q >>= λ b. before b (decode (drop j s))) (sym g); places = tt }

module _ (s : List ℕ) (i : ℕ) where
  -- no character is left
  pub four-none : (bytes : List ℕ) → i ≤ length s → dense (drop i s) ≡ [] → FourIs s i (Some (record { count = 0; bytes = bytes; next = i }))
  unfolding decode fours
  four-none bytes h e = let z = ap fours e in record { rest = z ∙ sym (ap (before []) z); places = (omega arith, omega arith, h, λ _. z) }

  -- one to three are left
  pub four-short : (cs : List ℕ) (j : ℕ) → Run s i cs j → dense (drop j s) ≡ [] → fours cs ≡ bad 7 → FourIs s i None
  unfolding decode
  four-short cs j u z e = record { rest = ap fours (u.rest ∙ ap (◌++◌ cs) z ∙ append-nil cs) ∙ e; places = tt }

  module _ (a b c d j : ℕ) (u : Run s i (a ∷ b ∷ c ∷ d ∷ []) j) where
    -- four letters, or what is none among them
    three-of : is_pad d ≡ false → decode (drop i s) ≡ (three_bytes a b c d >>= λ p. before p (decode (drop j s)))
    unfolding decode
    three-of h = ap fours u.rest ∙ fours-plain a b c d (dense (drop j s)) h

    pub four-three : (bytes : List ℕ) → is_pad d ≡ false → length bytes ≡ 3 → good bytes ≡ three_bytes a b c d
        → FourIs s i (Some (record { count = 3; bytes = bytes; next = j }))
    four-three bytes h l g =
        four_is s i j 3 bytes bytes _ (omega arith) u.far u.within (λ k. absurd (omega arith)) g (take_all 3 bytes (omega arith)) (three-of h)

    pub no-three : is_pad d ≡ false → bad 7 ≡ three_bytes a b c d → FourIs s i None
    no-three h g = no_four s i j _ g (three-of h)

    -- `=` and more behind it
    pub four-inside : (e : ℕ) (cs : List ℕ) → d ≡ 61 → dense (drop j s) ≡ e ∷ cs → FourIs s i None
    unfolding decode fours
    four-inside e cs h k = record { rest = ap fours (u.rest ∙ ap (λ (l : List ℕ). a ∷ b ∷ c ∷ d ∷ l) k) ∙ rw (h, three-pad a b c); places = tt }

    -- the last four end in `=`
    module _ (h : d ≡ 61) (z : dense (drop j s) ≡ []) where
      last_of : decode (drop i s) ≡ last_four a b c 61
      unfolding decode fours
      last_of = ap fours (u.rest ∙ ap (λ (l : List ℕ). a ∷ b ∷ c ∷ d ∷ l) z) ∙ rw h

      ended : decode (drop j s) ≡ good []
      unfolding decode fours
      ended = ap fours z

      of : (r : Result ℕ (List ℕ)) → last_four a b c 61 ≡ r → decode (drop i s) ≡ (r >>= λ q. before q (decode (drop j s)))
      of r e = last_of ∙ e ∙ rw ended (bind-nil r)

      closing : (n : ℕ) (p bytes : List ℕ) (r : Result ℕ (List ℕ)) → n ≤ 3 → good p ≡ r → take n bytes ≡ p → last_four a b c 61 ≡ r
          → FourIs s i (Some (record { count = n; bytes = bytes; next = j }))
      closing n p bytes r l g t e = four_is s i j n p bytes r l u.far u.within (λ _. ended) g t (of r e)

      pub four-two : (p : List ℕ) → is_pad c ≡ false → length p ≡ 2 → good p ≡ two_bytes a b c
          → FourIs s i (Some (record { count = 2; bytes = get_or p 0 0 ∷ get_or p 1 0 ∷ 0 ∷ []; next = j }))
      unfolding last_four is_pad
      four-two p k l g = closing 2 p _ (two_bytes a b c) (omega arith) g (of-two p l) (rw k)

      pub no-two : is_pad c ≡ false → bad 7 ≡ two_bytes a b c → FourIs s i None
      unfolding last_four is_pad
      no-two k g = no_four s i j _ g (of (two_bytes a b c) (rw k))

      pub four-one : (p : List ℕ) → c ≡ 61 → length p ≡ 1 → good p ≡ one_byte a b → FourIs s i (Some (record { count = 1; bytes = get_or p 0 0 ∷ 0 ∷ 0 ∷ []; next = j }))
      unfolding last_four is_pad
      four-one p k l g = closing 1 p _ (one_byte a b) (omega arith) g (of-one p l) (rw k)

      pub no-one : c ≡ 61 → bad 7 ≡ one_byte a b → FourIs s i None
      unfolding last_four is_pad
      no-one k g = no_four s i j _ g (of (one_byte a b) (rw k))
