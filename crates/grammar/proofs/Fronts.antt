-- What every reading of a text shares: white space, words that must stand there, tags, numerals. Each law comes twice: what the grammar has
-- is read whatever follows, and what is read is what the grammar has.
use Prim.Native.Nat.{◌*◌, ◌+◌, ◌-◌, ◌≤◌, ℕ}
use native.Mathlib.Omega.{arith}
use mathlib.Core.Bool.{Bool, and-false, false, true}
use mathlib.Core.List.{List, [], ◌++◌, ◌∷◌, append_assoc, append-nil}
use mathlib.Core.Path.{◌∙◌, ◌≡◌, ap, refl, subst, subst⁻¹, subst₂, sym}
use lib.Dec.{eqb, lit≤}
use lib.ListN.{length, length-append}
use borrow.Author.Tests.{eq-eqb, eqb-true, le-leb, lt-leb}
use Rattle.grammar.specs.Words.{Digit, Hexadigit, Numeral, Tag, White, a-tag, figure, hex-capital, hex-figure, hex-small, one-digit, one_more, white-end, white-then}
use Rattle.number.proofs.Laws.{numeral-append}
use Rattle.number.specs.Number.{Fault, digit, hexadigit, numeral, sized}
use Rattle.table.proofs.Laws.{all_append, between_is, between-yes, cond_cases, holds-bind, holds-cond, holds-weaken, no-white}
use Rattle.table.specs.All.{All}
use Rattle.table.specs.Bytes.{after, between, bytes, ends, is_white, skip_white, tag}
use Rattle.table.specs.Result.{Fails, Holds, Result, ◌>>=◌, bad, fails, gives, good, holds, refuses}

-- ---- what was taken from the front of a text

pub record Front {A : Type 0} (P : List ℕ → A → Type 0) (s : List ℕ) (p : A × List ℕ) : Type 0 where
  pub taken : List ℕ
  pub whole : s ≡ taken ++ p.1
  pub spelled : P taken p.0

pub record Rest (P : List ℕ → Type 0) (s rest : List ℕ) : Type 0 where
  pub taken : List ℕ
  pub whole : s ≡ taken ++ rest
  pub spelled : P taken

pub same_good : {E A : Type 0} {a b : A} → ◌≡◌ {A = Result E A} (good a) (good b) → a ≡ b
same_good e = cc e

-- ---- refusals

pub not_so : (b : Bool) → (b ≡ true → ⊥) → b ≡ false
not_so true h = absurd (h refl)
not_so false h = refl

-- what is found of a value goes on into what comes after it
pub fails-then : {E A B : Type 0} {P : A → Type 0} {Q : E → Type 0} {r : Result E A} {f : A → Result E B}
    → Fails Q r → Holds P r → ((a : A) → P a → Fails Q (f a)) → Fails Q (r >>= f)
fails-then (fails q) h g = fails q
fails-then gives (holds {a = a} p) g = g a p

module _ {E A : Type 0} where
  -- a refusal may rest on the reader's having refused: what the grammar has is then not there, since it would have been read
  pub fails-told : {Q : E → Type 0} {r : Result E A} → Fails (λ (e : E). r ≡ bad e → Q e) r → Fails Q r
  fails-told (fails h) = fails (h refl)
  fails-told gives = gives

  pub fails_both : {P Q R : E → Type 0} {r : Result E A} → Fails P r → Fails Q r → ((e : E) → P e → Q e → R e) → Fails R r
  fails_both (fails {e = e} h) (fails k) f = fails (f e h k)
  fails_both gives gives f = gives

  -- what has no value and one refusal alone
  pub refused : {n : E} {r : Result E A} → Fails (λ (e : E). e ≡ n) r → Holds (λ (a : A). ⊥) r → r ≡ bad n
  refused (fails h) none = ap bad h
  refused gives (holds h) = absurd h

-- ---- white space

pub skip-white : {w : List ℕ} → White w → (s : List ℕ) → skip_white (w ++ s) ≡ skip_white s
unfolding skip_white
skip-white white-end s = refl
skip-white (white-then h w) s = rw h (skip-white w s)

pub skip-stays : (b : ℕ) (s : List ℕ) → is_white b ≡ false → skip_white (b ∷ s) ≡ b ∷ s
unfolding skip_white
skip-stays b s h = rw h

pub skip_is : (s : List ℕ) → Rest White s (skip_white s)
unfolding skip_white
skip_is [] = record { taken = []; whole = refl; spelled = white-end }
skip_is (b ∷ s) =
    cond_cases (Rest White (b ∷ s)) (is_white b) (skip_white s) (b ∷ s)
    (λ h. record { taken = b ∷ (skip_is s).taken; whole = ap (λ (t : List ℕ). b ∷ t) (skip_is s).whole; spelled = white-then h (skip_is s).spelled })
    (λ _. record { taken = []; whole = refl; spelled = white-end })

-- what white space is skipped of whole is white space
pub white-only : (s : List ℕ) → skip_white s ≡ [] → White s
white-only s e =
    subst⁻¹ White ((skip_is s).whole ∙ ap (λ (x : List ℕ). (skip_is s).taken ++ x) e ∙ append-nil (skip_is s).taken) (skip_is s).spelled

pub skip_all : {w : List ℕ} → White w → skip_white w ≡ []
unfolding skip_white
skip_all white-end = refl
skip_all (white-then h w) = rw h (skip_all w)

-- ---- a word that must stand there

pub after-word : (n : ℕ) (word rest : List ℕ) → after n word (word ++ rest) ≡ good rest
unfolding after
after-word n [] rest = refl
after-word n (b ∷ word) rest = rw (eq-eqb b b refl) (after-word n word rest)

pub after_is : (n : ℕ) (word s : List ℕ) → Holds (λ (t : List ℕ). s ≡ word ++ t) (after n word s)
unfolding after
after_is n [] s = holds refl
after_is n (w ∷ word) [] = refuses
after_is n (w ∷ word) (b ∷ s) =
    holds-cond (eqb w b) (λ h. holds-weaken (after_is n word s) (λ t e. cc (eqb-true w b h, e))) (λ _. refuses)

pub ends-word : (n b : ℕ) (word : List ℕ) {w : List ℕ} (rest : List ℕ) → is_white b ≡ false → White w → ends n (b ∷ word) (w ++ (b ∷ (word ++ rest))) ≡ good rest
unfolding ends
ends-word n b word rest h w = rw (skip-white w (b ∷ (word ++ rest)), skip-stays b (word ++ rest) h) (after-word n (b ∷ word) rest)

-- white space and the word
abbrev pub Behind : List ℕ → List ℕ → Type 0
Behind word b = (w : List ℕ) × White w × (b ≡ w ++ word)

pub ends_is : (n : ℕ) (word s : List ℕ) → Holds (Rest (Behind word) s) (ends n word s)
unfolding ends
ends_is n word s = holds-weaken (after_is n word (skip_white s)) (λ t e. record {
  taken = (skip_is s).taken ++ word;
  whole = (skip_is s).whole ∙ ap (λ (u : List ℕ). (skip_is s).taken ++ u) e ∙ sym (append_assoc (skip_is s).taken word t);
  spelled = ((skip_is s).taken, (skip_is s).spelled, refl);
})

pub tag_is : (n : ℕ) (word s : List ℕ) → Holds (Rest (Tag word (bytes ">")) s) (tag n word s)
unfolding tag
tag_is n word s = holds-bind (after_is n word s) (λ t e. holds-weaken (ends_is n (bytes ">") t) (λ u r. record {
  taken = word ++ (r.spelled.0 ++ bytes ">");
  whole = e ∙ ap (λ (x : List ℕ). word ++ x) (r.whole ∙ ap (λ (x : List ℕ). x ++ u) r.spelled.2) ∙ sym (append_assoc word (r.spelled.0 ++ bytes ">") u);
  spelled = a-tag r.spelled.1;
}))

pub tag_read : (n : ℕ) {word b : List ℕ} → Tag word (bytes ">") b → (rest : List ℕ) → tag n word (b ++ rest) ≡ good rest
unfolding tag
tag_read n {word} (a-tag {w = w} h) rest =
    rw (append_assoc word (w ++ bytes ">") rest, append_assoc w (bytes ">") rest, after-word n word (w ++ (bytes ">" ++ rest)))
    (ends-word n 62 [] rest (no-white 62 (lit≤ tt)) h)

-- ---- numerals

pub digit-read : (b d : ℕ) → Digit b d → digit b ≡ good d
unfolding digit
digit-read b n (figure {d = d} h) = rw (between-yes 48 57 (48 + d) (omega arith) (omega arith)) (ap good (omega arith))

pub digit-is : (b : ℕ) → Holds (Digit b) (digit b)
unfolding digit
digit-is b = holds-cond (between 48 57 b) (λ h. let k = between_is 48 57 b h in
    let e : 48 + (b - 48) ≡ b = omega arith in holds (subst (λ (x : ℕ). Digit x (b - 48)) e (figure {d = b - 48} (omega arith)))) (λ _. refuses)

pub hexadigit-read : (b d : ℕ) → Hexadigit b d → hexadigit b ≡ good d
unfolding hexadigit between
hexadigit-read b n (hex-figure {d = d} h) = rw (le-leb 48 (48 + d) (omega arith), le-leb (48 + d) 57 (omega arith)) (ap good (omega arith))
hexadigit-read b n (hex-capital {d = d} h) =
    rw (lt-leb (65 + d) 57 (omega arith), and-false, le-leb 65 (65 + d) (omega arith), le-leb (65 + d) 70 (omega arith)) (ap good (omega arith))
hexadigit-read b n (hex-small {d = d} h) =
    rw (lt-leb (97 + d) 57 (omega arith), and-false, lt-leb (97 + d) 70 (omega arith), and-false, le-leb 97 (97 + d) (omega arith), le-leb (97 + d) 102 (omega arith)) (ap good (omega arith))

pub hexadigit-is : (b : ℕ) → Holds (Hexadigit b) (hexadigit b)
unfolding hexadigit
hexadigit-is b =
    holds-cond (between 48 57 b) (λ h. let k = between_is 48 57 b h in
    let e : 48 + (b - 48) ≡ b = omega arith in holds (subst (λ (x : ℕ). Hexadigit x (b - 48)) e (hex-figure {d = b - 48} (omega arith)))) (λ _.
    holds-cond (between 65 70 b) (λ h. let k = between_is 65 70 b h in
    let e : 65 + (b - 65) ≡ b = omega arith in let f : 10 + (b - 65) ≡ b - 55 = omega arith in
    holds (subst₂ Hexadigit e f (hex-capital {d = b - 65} (omega arith)))) (λ _.
    holds-cond (between 97 102 b) (λ h. let k = between_is 97 102 b h in
    let e : 97 + (b - 97) ≡ b = omega arith in let f : 10 + (b - 97) ≡ b - 87 = omega arith in
    holds (subst₂ Hexadigit e f (hex-small {d = b - 97} (omega arith)))) (λ _. refuses)))

pub numeral-some : {Figure : ℕ → ℕ → Type 0} {base n : ℕ} {s : List ℕ} → Numeral Figure base s n → 1 ≤ length s
numeral-some (one-digit f) = lit≤ tt
numeral-some (one_more m f) = simp length-append (omega arith)

-- every digit of a numeral
pub numeral-all : {Figure : ℕ → ℕ → Type 0} {base n : ℕ} {s : List ℕ} (P : ℕ → Type 0) → ((b d : ℕ) → Figure b d → P b) → Numeral Figure base s n → All P s
numeral-all P f (one-digit {b = b} {d = d} h) = (f b d h, tt)
numeral-all P f (one_more {s = s} {b = b} {d = d} m h) = all_append P s (b ∷ []) (numeral-all P f m) (f b d h, tt)

module _ (v : ℕ → Result Fault ℕ) (Figure : ℕ → ℕ → Type 0) (base : ℕ) (complete : (b d : ℕ) → Figure b d → v b ≡ good d) (sound : (b : ℕ) → Holds (Figure b) (v b)) where
  pub numeral-read : {s : List ℕ} {n : ℕ} → Numeral Figure base s n → numeral v base 0 s ≡ good n
  unfolding numeral
  numeral-read (one-digit {b = b} {d = d} f) = rw (complete b d f) (ap good (omega arith))
  numeral-read (one_more {s = s} {b = b} {d = d} m f) = numeral-append v base 0 s (b ∷ []) ∙ rw (numeral-read m, complete b d f)

  pub numeral-from : (p : List ℕ) (a : ℕ) → Numeral Figure base p a → (s : List ℕ) → Holds (Numeral Figure base (p ++ s)) (numeral v base a s)
  unfolding numeral
  numeral-from p a m [] = holds {a = a} (rw append-nil m)
  numeral-from p a m (b ∷ s) = holds-bind (sound b) (λ d f. holds-weaken (numeral-from (p ++ (b ∷ [])) (a * base + d) (one_more m f) s) (λ n h. rw append_assoc at h))

  pub numeral-is : (s : List ℕ) → 1 ≤ length s → Holds (Numeral Figure base s) (numeral v base 0 s)
  unfolding numeral
  numeral-is [] h = absurd (omega arith)
  numeral-is (b ∷ s) h = holds-bind (sound b) (λ d f. numeral-from (b ∷ []) (0 * base + d) (subst (Numeral Figure base (b ∷ [])) (omega arith) (one-digit f)) s)

  pub sized-read : (most : ℕ) {s : List ℕ} {n : ℕ} → Numeral Figure base s n → length s ≤ most → sized most v base s ≡ good n
  unfolding sized
  sized-read most {s} m h = rw (between-yes 1 most (length s) (numeral-some m) h) (numeral-read m)

  pub sized-is : (most : ℕ) (s : List ℕ) → Holds (λ (n : ℕ). Numeral Figure base s n × (length s ≤ most)) (sized most v base s)
  unfolding sized
  sized-is most s = holds-cond (between 1 most (length s)) (λ h. let k = between_is 1 most (length s) h in
      holds-weaken (numeral-is s k.0) (λ n m. (m, k.1))) (λ _. refuses)
