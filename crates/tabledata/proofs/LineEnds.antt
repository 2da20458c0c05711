-- Line ends in TABLEDATA: a cell is read alike from a text and from what 2.11 makes of it, in which its characters are what they were under 01; and
-- nothing that is written has a 13. The idea: where a text has a 13 the other has a 10 or nothing, and the reader's step there is the same; in a
-- reference both are broken, since no name has white space.
use Prim.Native.Nat.{ℕ}
use native.Mathlib.Omega.{arith}
use mathlib.Core.Bool.{Bool, cond, false, false≢true, true}
use mathlib.Core.List.{List, [], ◌++◌, ◌∷◌, append_assoc, append-nil, map}
use mathlib.Core.Path.{◌∙◌, ◌≡◌, ap, ap₂, refl, subst, sym}
use lib.Dec.{eqb, lit≤}
use lib.IntN.{negsuc, pos, ℤ}
use borrow.Author.Tests.{eqb-false, eqb-true, ne_eqb}
use Rattle.number.proofs.Laws.{IsFigure, digit-figure, hexadigit-figure, sized-figures}
use Rattle.number.specs.Number.{digit, hexadigit, shortest, sized}
use Rattle.table.proofs.Bytes.{same-is}
use Rattle.table.proofs.Laws.{NoWhite, after-fails, all_map, all-weaken, cond_cases, fails-always, fails-at, fails-bind, fails-cond, fails-else}
use Rattle.table.proofs.Laws.{holds_as, holds_at, holds-bind, holds-cond, holds-else, holds-weaken, no-white}
use Rattle.table.proofs.LineEnds.{NoReturn, after-ends, ends-ends, first-cases, no_return, no-return-append, none-has-return, other-kept, rest-else, rest_then, rest_ends, return_alone, return-first}
use Rattle.table.proofs.LineEnds.{return-goes, skip-ends, tag-ends, tag-then}
use Rattle.table.specs.All.{All}
use Rattle.table.specs.Bytes.{after, bytes, ends, is_white, same, skip_white, tag}
use Rattle.table.specs.Cell.{Cell, null, shown}
use Rattle.table.specs.LineEnds.{feed_first, line_ends}
use Rattle.table.specs.Result.{Fails, Holds, Result, ◌>>=◌, bad, fails, gives, good, holds, or_else, refuses}
use Rattle.table.specs.Shape.{Bits, Shape, Text, Truths, Whole, shape}
use Rattle.table.specs.declared.Column.{Column}
use Rattle.tabledata.proofs.Laws.{Plain, PlainWord, bit_is, plain-digit, shortest-word, spaced-plain, truth-word}
use Rattle.tabledata.specs.LineEnds.{characters_as_themselves, step_as_itself}
use Rattle.tabledata.specs.TableData.{Step, Where, broken, cell_text, characters, close-TD, cons_text, emit, emitted, expanded, follow, goes, line_end}
use Rattle.tabledata.specs.TableData.{named, names, numeric, open-TD, plain, read_text, reference, step, tag_begins, text_cell}
use Rattle.tabledata.specs.TableData.{bit_text, element_bytes, element_text, escaped, form_of, forms, is_text, spaced, tagged, truth_text, write_text}

-- ---- a reference with white space in it is broken

-- whatever is read behind a word that has no white space
after-dark : (n : ℕ) (word s : List ℕ) → NoWhite word → Holds (λ (t : List ℕ). NoWhite t → NoWhite s) (after n word s)
unfolding after
after-dark n [] s a = holds (λ h. h)
after-dark n (w ∷ word) [] a = refuses
after-dark n (w ∷ word) (b ∷ s) a =
    holds-cond (eqb w b) (λ e. holds-weaken (after-dark n word s a.1) (λ t f h. (ap is_white (sym (eqb-true w b e)) ∙ a.0, f h))) (λ _. refuses)

figures-dark : (s : List ℕ) → All IsFigure s → NoWhite s
figures-dark s a = all-weaken _ _ s (λ b h. no-white b (omega arith)) a

named-dark : (known : List (List ℕ × ℕ)) (s : List ℕ) → All (λ (n : List ℕ × ℕ). NoWhite n.0) known → Holds (λ (c : ℕ). NoWhite s) (named known s)
unfolding named
named-dark [] s a = refuses
named-dark (n ∷ known) s a = holds-cond (same n.0 s) (λ e. holds (rw (← same-is n.0 s e) a.0)) (λ _. named-dark known s a.1)

expanded-dark : (s : List ℕ) → Holds (λ (c : ℕ). NoWhite s) (expanded s)
unfolding expanded numeric names is_white
expanded-dark s =
    holds-else (holds-bind (after-dark 10 (bytes "#x") s (refl, (refl, tt))) (λ t f.
    holds_as (λ _. 10) (holds-weaken (sized-figures hexadigit 16 hexadigit-figure 8 t) (λ n a. f (figures-dark t a)))))
    (holds-else (holds-bind (after-dark 10 (bytes "#") s (refl, tt)) (λ t f.
    holds_as (λ _. 10) (holds-weaken (sized-figures digit 10 digit-figure 8 t) (λ n a. f (figures-dark t a)))))
    (named-dark _ s
    ((refl, (refl, (refl, tt))), ((refl, (refl, tt)), ((refl, (refl, tt)), ((refl, (refl, (refl, (refl, tt)))), ((refl, (refl, (refl, (refl, tt)))), tt)))))))

named-fails : (known : List (List ℕ × ℕ)) (s : List ℕ) → Fails (λ (n : ℕ). n ≡ 10) (named known s)
unfolding named
named-fails [] s = fails refl
named-fails (n ∷ known) s = fails-cond (same n.0 s) gives (named-fails known s)

expanded-fails : (s : List ℕ) → Fails (λ (n : ℕ). n ≡ 10) (expanded s)
unfolding expanded numeric
expanded-fails s =
    fails-else (fails-bind (after-fails 10 (bytes "#x") s refl) (λ t. fails-always (λ _. 10) (sized 8 hexadigit 16 t) (λ _. refl)))
    (fails-else (fails-bind (after-fails 10 (bytes "#") s refl) (λ t. fails-always (λ _. 10) (sized 8 digit 10 t) (λ _. refl))) (named-fails names s))

white-inside : (n : List ℕ) (b : ℕ) (t : List ℕ) → is_white b ≡ true → NoWhite (n ++ (b ∷ t)) → ⊥
white-inside [] b t h a = false≢true (sym a.0 ∙ h)
white-inside (c ∷ n) b t h a = white-inside n b t h a.1

-- no name with white space in it is known
white-unknown : (n : List ℕ) (b : ℕ) (t : List ℕ) → is_white b ≡ true → expanded (n ++ (b ∷ t)) ≡ bad 10
white-unknown n b t h = go (expanded (n ++ (b ∷ t))) refl
  where
    go : (r : Result ℕ ℕ) → expanded (n ++ (b ∷ t)) ≡ r → r ≡ bad 10
    go (good c) e = absurd (white-inside n b t h (holds_at (expanded-dark (n ++ (b ∷ t))) e))
    go (bad k) e = ap bad (fails-at (expanded-fails (n ++ (b ∷ t))) e)

-- so nothing that follows mends it
unknown-broken : (n s : List ℕ) → ((t : List ℕ) → expanded (n ++ t) ≡ bad 10) → characters (reference n) s ≡ bad 10
unfolding characters step
unknown-broken n [] h = refl
unknown-broken n (b ∷ s) h = go (eqb b 59) (unknown-broken (n ++ (b ∷ [])) s (λ t. ap expanded (append_assoc n (b ∷ []) t) ∙ h (b ∷ t)))
  where
    ended : follow (emitted (expanded n)) (b ∷ s) (λ v. characters v s) ≡ bad 10
    ended = unfold follow emitted in rw (ap expanded (sym (append-nil n)) ∙ h [])

    go : (x : Bool) → characters (reference (n ++ (b ∷ []))) s ≡ bad 10
        → follow (cond x (emitted (expanded n)) (goes (reference (n ++ (b ∷ []))))) (b ∷ s) (λ v. characters v s) ≡ bad 10
    go true ih = ended
    go false ih = unfold follow in ih

-- ---- a cell's characters

cons-rest : (c : ℕ) (r : Result ℕ (List ℕ × List ℕ)) → cons_text c (rest_ends r) ≡ rest_ends (cons_text c r)
unfolding cons_text
cons-rest c (good p) = refl
cons-rest c (bad n) = refl

-- the step at a byte that is no 13 does not hang on what follows
step_other : (w : Where) (b : ℕ) (s t : List ℕ) → (b ≡ 13 → ⊥) → step w b s ≡ step w b t
unfolding step
step_other plain b s t n = rw (ne_eqb b 13 n)
step_other (reference name) b s t n = refl

-- a step and what follows it, in both texts
follow-ends : (x : Step) (b : ℕ) (s : List ℕ) (more others : Where → Result ℕ (List ℕ × List ℕ)) → (b ≡ 13 → ⊥) → ((v : Where) → others v ≡ rest_ends (more v))
    → follow x (b ∷ line_ends s) others ≡ rest_ends (follow x (b ∷ s) more)
unfolding follow close-TD is_white
follow-ends (emit c) b s more others n ih = ap (cons_text c) (ih plain) ∙ cons-rest c (more plain)
follow-ends (goes w) b s more others n ih = ih w
follow-ends tag_begins b s more others n ih =
    ap (λ (u : List ℕ). tag 10 (bytes "</TD") u >>= λ rest. good ([], rest)) (sym (other-kept b s n))
    ∙ ap (λ (r : Result ℕ (List ℕ)). r >>= λ rest. good ([], rest)) (tag-ends 10 (bytes "</TD") (b ∷ s) (refl, (refl, (refl, (refl, tt)))))
    ∙ tag-then (tag 10 (bytes "</TD") (b ∷ s)) (λ rest. good ([], rest)) (λ t. refl)
follow-ends broken b s more others n ih = refl

-- a literal 13 in the text: before a 10 it goes, and alone it is a 10
module _ (s : List ℕ) where
  pub return-goes-read : feed_first s ≡ true → characters plain (13 ∷ s) ≡ characters plain s
  unfolding characters step follow line_end
  return-goes-read f = rw f

  pub return-alone-read : feed_first s ≡ false → characters plain (13 ∷ s) ≡ cons_text 10 (characters plain s)
  unfolding characters step follow line_end
  return-alone-read f = rw f

  -- any other byte that begins no tag and no reference is itself
  pub itself-read : (b : ℕ) → (b ≡ 60 → ⊥) → (b ≡ 38 → ⊥) → (b ≡ 13 → ⊥) → characters plain (b ∷ s) ≡ cons_text b (characters plain s)
  unfolding characters step follow
  itself-read b h k n = rw (ne_eqb b 60 h, ne_eqb b 38 k, ne_eqb b 13 n)

  pub feed-read : characters plain (10 ∷ s) ≡ cons_text 10 (characters plain s)
  feed-read = itself-read 10 (λ e. omega arith) (λ e. omega arith) (λ e. omega arith)

-- in a reference it breaks it
white-broken : (n : List ℕ) (b : ℕ) (s : List ℕ) → is_white b ≡ true → characters (reference n) (b ∷ s) ≡ bad 10
unfolding characters step follow
white-broken n b s h =
    rw (ne_eqb b 59 (λ e. false≢true (sym (no-white 59 (lit≤ tt)) ∙ ap is_white (sym e) ∙ h)))
    (unknown-broken (n ++ (b ∷ [])) s (λ t. ap expanded (append_assoc n (b ∷ []) t) ∙ white-unknown n b t h))

reference-return : (n s : List ℕ) → characters (reference n) (line_ends (13 ∷ s)) ≡ rest_ends (characters (reference n) (13 ∷ s))
reference-return n s =
    ap (characters (reference n)) (return-first s).1
    ∙ rw (white-broken n 10 (return-first s).0 (unfold is_white in refl), white-broken n 13 s (unfold is_white in refl))

pub characters-ends : (w : Where) (s : List ℕ) → characters w (line_ends s) ≡ rest_ends (characters w s)
characters-ends w [] = unfold line_ends characters in refl
characters-ends w (b ∷ s) = go w (λ v. characters-ends v s)
  where
    other : (w : Where) → ((v : Where) → characters v (line_ends s) ≡ rest_ends (characters v s)) → (b ≡ 13 → ⊥)
        → characters w (line_ends (b ∷ s)) ≡ rest_ends (characters w (b ∷ s))
    other w ih n = unfold characters in
        ap (characters w) (other-kept b s n)
        ∙ ap (λ (x : Step). follow x (b ∷ line_ends s) (λ v. characters v (line_ends s))) (step_other w b (line_ends s) s n)
        ∙ follow-ends (step w b s) b s (λ v. characters v s) (λ v. characters v (line_ends s)) n ih

    go : (w : Where) → ((v : Where) → characters v (line_ends s) ≡ rest_ends (characters v s)) → characters w (line_ends (b ∷ s)) ≡ rest_ends (characters w (b ∷ s))
    go plain ih =
        first-cases (λ (c : ℕ). characters plain (line_ends (c ∷ s)) ≡ rest_ends (characters plain (c ∷ s))) b s
        (λ f. ap (characters plain) (return-goes s f) ∙ ih plain ∙ ap rest_ends (sym (return-goes-read s f)))
        (λ f. ap (characters plain) (return_alone s f) ∙ feed-read (line_ends s) ∙ ap (cons_text 10) (ih plain) ∙ cons-rest 10 (characters plain s)
        ∙ ap rest_ends (sym (return-alone-read s f)))
        (other plain ih)
    go (reference n) ih =
        first-cases (λ (c : ℕ). characters (reference n) (line_ends (c ∷ s)) ≡ rest_ends (characters (reference n) (c ∷ s))) b s
        (λ _. reference-return n s) (λ _. reference-return n s) (other (reference n) ih)

-- in a text without a 13 characters are what they were
step-as-itself : (w : Where) (b : ℕ) (s : List ℕ) → (b ≡ 13 → ⊥) → step w b s ≡ step_as_itself w b
unfolding step step_as_itself
step-as-itself plain b s n = rw (ne_eqb b 13 n)
step-as-itself (reference name) b s n = refl

follow-alike : (x : Step) (s : List ℕ) (more others : Where → Result ℕ (List ℕ × List ℕ)) → ((v : Where) → more v ≡ others v) → follow x s more ≡ follow x s others
unfolding follow
follow-alike (emit c) s more others h = ap (cons_text c) (h plain)
follow-alike (goes w) s more others h = h w
follow-alike tag_begins s more others h = refl
follow-alike broken s more others h = refl

pub characters-as-before : (w : Where) (s : List ℕ) → NoReturn s → characters w s ≡ characters_as_themselves w s
unfolding characters characters_as_themselves
characters-as-before w [] a = refl
characters-as-before w (b ∷ s) a =
    ap (λ (x : Step). follow x (b ∷ s) (λ v. characters v s)) (step-as-itself w b s a.0)
    ∙ follow-alike (step_as_itself w b) (b ∷ s) (λ v. characters v s) (λ v. characters_as_themselves v s) (λ v. characters-as-before v s a.1)

-- so a cell's characters are, in any text, those that 01's own rule finds in what 2.11 makes of it
pub characters-behind : (w : Where) (s : List ℕ) → characters_as_themselves w (line_ends s) ≡ rest_ends (characters w s)
characters-behind w s = sym (characters-as-before w (line_ends s) (no_return s)) ∙ characters-ends w s

-- ---- a cell

-- what follows `<TD`: nothing, or a text
abbrev empty : List ℕ → Result ℕ (List ℕ × List ℕ)
empty t = ends 10 (bytes "/>") t >>= λ rest. good ([], rest)

abbrev content : List ℕ → Result ℕ (List ℕ × List ℕ)
content t = ends 10 (bytes ">") t >>= λ u. characters plain u

empty-ends : (t : List ℕ) → empty (line_ends t) ≡ rest_ends (empty t)
empty-ends t =
    ap (λ (r : Result ℕ (List ℕ)). r >>= λ rest. good ([], rest)) (ends-ends 10 (bytes "/>") t (unfold is_white in (refl, (refl, tt))))
    ∙ tag-then (ends 10 (bytes "/>") t) (λ rest. good ([], rest)) (λ _. refl)

content-ends : (t : List ℕ) → content (line_ends t) ≡ rest_ends (content t)
content-ends t =
    ap (λ (r : Result ℕ (List ℕ)). r >>= λ u. characters plain u) (ends-ends 10 (bytes ">") t (unfold is_white in (refl, tt)))
    ∙ tag-then (ends 10 (bytes ">") t) (characters plain) (characters-ends plain)

pub cell-text-ends : (s : List ℕ) → cell_text (line_ends s) ≡ rest_ends (cell_text s)
unfolding cell_text open-TD
cell-text-ends s =
    ap (λ (u : List ℕ). after 10 (bytes "<TD") u >>= λ t. or_else (empty t) (content t)) (skip-ends s)
    ∙ ap (λ (r : Result ℕ (List ℕ)). r >>= λ t. or_else (empty t) (content t))
    (after-ends 10 (bytes "<TD") (skip_white s) (unfold is_white in (refl, (refl, (refl, tt)))))
    ∙ tag-then (after 10 (bytes "<TD") (skip_white s)) (λ t. or_else (empty t) (content t)) (λ t.
    ap₂ or_else (empty-ends t) (content-ends t) ∙ rest-else (empty t) (content t))

pub text-ends : (c : Column) (s : List ℕ) → read_text c (line_ends s) ≡ rest_ends (read_text c s)
unfolding read_text
text-ends c s =
    ap (λ (r : Result ℕ (List ℕ × List ℕ)). r >>= λ p. text_cell c p.0 >>= λ x. good (x, p.1)) (cell-text-ends s)
    ∙ rest_then (cell_text s) (λ p. text_cell c p.0 >>= λ x. good (x, p.1)) (λ p. shows p.1 (text_cell c p.0))
  where
    shows : (t : List ℕ) (r : Result ℕ Cell) → (r >>= λ x. good (x, line_ends t)) ≡ rest_ends (r >>= λ x. good (x, t))
    shows t (good x) = refl
    shows t (bad n) = refl

-- ---- what is written

-- a byte that stands for itself is no 13
plain-no-return : (b : ℕ) → Plain b → b ≡ 13 → ⊥
unfolding step line_end feed_first
plain-no-return b p e =
    let q : step plain 13 [] ≡ emit 13 = subst (λ (x : ℕ). step plain x [] ≡ emit x) e (p.itself []) in
    let z : ◌≡◌ {A = ℕ} 10 13 = cc in absurd (omega arith)

plains-no-return : (s : List ℕ) → All Plain s → NoReturn s
plains-no-return s a = all-weaken _ _ s plain-no-return a

escaped-no-return : (c : ℕ) → NoReturn (escaped c)
unfolding escaped
escaped-no-return c =
    cond_cases NoReturn (eqb c 38) _ _ (λ _. none-has-return (bytes "&amp;") refl) (λ _.
    cond_cases NoReturn (eqb c 60) _ _ (λ _. none-has-return (bytes "&lt;") refl) (λ _.
    cond_cases NoReturn (eqb c 62) _ _ (λ _. none-has-return (bytes "&gt;") refl) (λ _.
    cond_cases NoReturn (eqb c 13) _ _ (λ _. none-has-return (bytes "&#xD;") refl) (λ n. (eqb-false c 13 n, tt)))))

forms-no-return : (es : List ℤ) → Holds NoReturn (forms es)
unfolding forms form_of
forms-no-return [] = holds tt
forms-no-return (pos c ∷ es) =
    holds-bind {P = NoReturn} (holds-cond (is_text c) (λ _. holds (escaped-no-return c)) (λ _. refuses)) (λ b h. holds-bind (forms-no-return es) (λ r g. holds (no-return-append b r h g)))
forms-no-return (negsuc c ∷ es) = refuses

element-no-return : (k : Shape) (es : List ℤ) → Holds NoReturn (element_text k es)
unfolding element_text element_bytes
element-no-return Truths es = holds (plains-no-return (spaced (map truth_text es)) (spaced-plain (map truth_text es) (all_map PlainWord truth_text truth-word es)))
element-no-return Bits es = holds (plains-no-return (map bit_text es) (all_map Plain bit_text (λ e. plain-digit (bit_text e) (bit_is e)) es))
element-no-return (Whole g v) es = holds (plains-no-return (spaced (map shortest es)) (spaced-plain (map shortest es) (all_map PlainWord shortest shortest-word es)))
element-no-return Text es = forms-no-return es

-- "Our writer already writes `&#xD;`": whatever the cell
pub text-no-return : (c : Column) (x : Cell) → Holds NoReturn (write_text c x)
unfolding write_text tagged open-TD close-TD
text-no-return c null = holds (none-has-return (bytes "<TD/>") refl)
text-no-return c (shown []) = refuses
text-no-return c (shown (e ∷ es)) =
    holds-bind (element-no-return (shape c.kind) (e ∷ es)) (λ t h.
    holds (no-return-append (bytes "<TD>") (t ++ bytes "</TD>") (none-has-return (bytes "<TD>") refl)
    (no-return-append t (bytes "</TD>") h (none-has-return (bytes "</TD>") refl))))
