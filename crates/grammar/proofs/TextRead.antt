-- TABLEDATA is read exactly: characters, elements, cells. What the grammar has is read whatever follows; what is read is in the grammar.
use Prim.Native.Nat.{◌≤◌, suc, ℕ}
use native.Mathlib.Nat.{le_refl}
use native.Mathlib.Omega.{arith}
use mathlib.Core.Bool.{Bool, ◌&&◌, ◌||◌, false, false≢true, or-true, true}
use mathlib.Core.List.{List, [], ◌++◌, ◌∷◌, append_assoc, append-nil}
use mathlib.Core.Path.{◌∙◌, ◌≡◌, ap, refl, subst, sym}
use lib.Dec.{eqb, leb, lit≤}
use lib.IntN.{ℤ}
use lib.ListN.{length}
use borrow.Author.Tests.{eqb-false, eqb-true, le-leb, leb-true, ne_eqb}
use Rattle.binary.proofs.Laws.{room-self}
use Rattle.grammar.proofs.Fronts.{after_is, digit-is, digit-read, ends_is, ends-word, hexadigit-is, hexadigit-read, numeral-all, numeral-some, sized-is}
use Rattle.grammar.proofs.Fronts.{sized-read, skip_is, skip-stays, skip-white, tag_is, tag_read}
use Rattle.grammar.proofs.ShownRead.{shows-is, shows-read}
use Rattle.grammar.proofs.WordsRead.{OneWord, bit-letters-dark, bits_are, bits-read, first-is, first_read, integer-is, integer-read, integer-word, no_word, one_word, one-word-of}
use Rattle.grammar.proofs.WordsRead.{outside-is, outside-read, outside-word, spaced-is, spaced-read, three-bytes, truth-is, truth-read, truth-word, two-words, words-blank, words-trimmed}
use Rattle.grammar.proofs.WordsRead.{words-white}
use Rattle.grammar.specs.CellRefusals.{OutsideFirst, first-outside}
use Rattle.grammar.specs.Text.{Character, Characters, IsText, Many, Marked, TextCell, TextElements, TextShows, char-amp, char-apos, char-decimal}
use Rattle.grammar.specs.Text.{char-gt, char-hexadecimal, char-itself, char-line-end, char-lt, char-quot, chars-end, chars-return, chars-then, many-bounded, many-fixed, many-free}
use Rattle.grammar.specs.Text.{many-shorter, shows-elements, shows-empty, text-bits, text-chars, text-line-feed, text-other, text-return, text-tab, text-truths}
use Rattle.grammar.specs.Text.{marked_empty, marked-text, text-cell, text-whole}
use Rattle.grammar.specs.Words.{BitLetters, Digit, Hexadigit, IntegerWord, Numeral, OutsideWord, Tag, Trimmed, TruthWord, White, a-tag, bits-0, bits-1, bits-end, figure}
use Rattle.grammar.specs.Words.{hex-capital, hex-figure, hex-small, trimmed, white-end}
use Rattle.number.specs.Number.{Fault, Outside, Unwritten, digit, hexadigit, numeral, sized}
use Rattle.table.proofs.Bytes.{same-is}
use Rattle.table.proofs.Laws.{and_both, between_is, between-yes, cond_cases, fails-as, fails-weaken, holds_as, holds_at, holds-bind, holds-cond, holds-else, holds-eq}
use Rattle.table.proofs.Laws.{holds-weaken, nil-not-null, no-white, or-either}
use Rattle.table.proofs.LineEnds.{first-cases}
use Rattle.table.specs.All.{All}
use Rattle.table.specs.Bytes.{after, between, bytes, ends, is_white, same, skip_white, tag, words}
use Rattle.table.specs.Cell.{Cell, bound, empty_is_null, is_null_list, most_elements, null, room_fits, room_in, show, shown, stands_for_null}
use Rattle.table.specs.LineEnds.{feed_first}
use Rattle.table.specs.Result.{Fails, Holds, Result, ◌>>=◌, bad, good, holds, or_else, refuses}
use Rattle.table.specs.Shape.{Bits, Shape, Text, Truths, Whole, last, shape}
use Rattle.table.specs.declared.Column.{Column}
use Rattle.table.specs.declared.Len.{Len}
use Rattle.table.specs.declared.Len.TheVariants.{Bounded, Fixed, Free}
use Rattle.tabledata.proofs.Elements.{elements-text}
use Rattle.tabledata.proofs.Laws.{elements-fails}
use Rattle.tabledata.proofs.LineEnds.{feed-read, itself-read, return-alone-read, return-goes-read}
use Rattle.tabledata.specs.TableData.{Step, Where, all_text, bit_words, cell_text, characters, close-TD, cons_text, count_fits, emitted, expanded, follow, goes}
use Rattle.tabledata.specs.TableData.{integer_word, is_text, named, names, numeric, open-TD, plain, read_text, reference, step, tag_begins, text_cell, text_elements}
use Rattle.tabledata.specs.TableData.{fault_number, truth_word}

-- ---- references

reference-read : (name s t : List ℕ) → All (λ (b : ℕ). b ≡ 59 → ⊥) s
    → characters (reference name) (s ++ (59 ∷ t)) ≡ follow (emitted (expanded (name ++ s))) (59 ∷ t) (λ v. characters v t)
unfolding characters step follow
reference-read name [] t a = rw append-nil
reference-read name (b ∷ s) t a = rw (ne_eqb b 59 a.0) (reference-read (name ++ (b ∷ [])) s t a.1 ∙ rw append_assoc)

digit-58 : (b d : ℕ) → Digit b d → b ≤ 57
digit-58 b n (figure h) = omega arith

expanded-decimal : {s : List ℕ} {n : ℕ} → Numeral Digit 10 s n → length s ≤ 8 → expanded (35 ∷ s) ≡ good n
unfolding expanded after numeric
expanded-decimal {s} m h = go s (numeral-some m) (numeral-all (λ (b : ℕ). b ≤ 57) digit-58 m) (sized-read digit Digit 10 digit-read digit-is 8 m h)
  where
    go : {n : ℕ} (s : List ℕ) → 1 ≤ length s → All (λ (b : ℕ). b ≤ 57) s → sized 8 digit 10 s ≡ good n → expanded (35 ∷ s) ≡ good n
    go [] k a e = absurd (omega arith)
    go (b ∷ s) k a e = rw (ne_eqb 120 b (λ q. omega (arith, a.0, q)), e)

expanded-hexadecimal : {s : List ℕ} {n : ℕ} → Numeral Hexadigit 16 s n → length s ≤ 8 → expanded (35 ∷ 120 ∷ s) ≡ good n
unfolding expanded after numeric
expanded-hexadecimal m h = rw (sized-read hexadigit Hexadigit 16 hexadigit-read hexadigit-is 8 m h)

digit-59 : (b d : ℕ) → Digit b d → b ≡ 59 → ⊥
digit-59 b n (figure h) e = omega arith

hexadigit-59 : (b d : ℕ) → Hexadigit b d → b ≡ 59 → ⊥
hexadigit-59 b n (hex-figure h) e = omega arith
hexadigit-59 b n (hex-capital h) e = omega arith
hexadigit-59 b n (hex-small h) e = omega arith

numeric-read : (s t : List ℕ) (n : ℕ) → All (λ (b : ℕ). b ≡ 59 → ⊥) s → expanded (35 ∷ s) ≡ good n
    → characters plain (38 ∷ 35 ∷ (s ++ (59 ∷ t))) ≡ cons_text n (characters plain t)
unfolding characters step follow emitted
numeric-read s t n a e = reference-read (35 ∷ []) s t a ∙ rw e

hex-read : (s t : List ℕ) (n : ℕ) → All (λ (b : ℕ). b ≡ 59 → ⊥) s → expanded (35 ∷ 120 ∷ s) ≡ good n
    → characters plain (38 ∷ 35 ∷ 120 ∷ (s ++ (59 ∷ t))) ≡ cons_text n (characters plain t)
unfolding characters step follow emitted
hex-read s t n a e = reference-read (35 ∷ 120 ∷ []) s t a ∙ rw e

character-read : {b : List ℕ} {c : ℕ} → Character b c → (t : List ℕ) → characters plain (b ++ t) ≡ cons_text c (characters plain t)
unfolding characters step follow emitted expanded numeric named names same sized numeral hexadigit between after
character-read (char-itself {b = b} h k r) t = itself-read t b h k r
character-read char-line-end t = return-goes-read (10 ∷ t) (unfold feed_first in refl) ∙ feed-read t
character-read char-amp t = refl
character-read char-lt t = refl
character-read char-gt t = refl
character-read char-quot t = refl
character-read char-apos t = refl
character-read (char-decimal {s = s} {n = n} m h) t =
    ap (λ (u : List ℕ). characters plain (38 ∷ 35 ∷ u)) (append_assoc s (59 ∷ []) t)
    ∙ numeric-read s t n (numeral-all (λ (b : ℕ). b ≡ 59 → ⊥) digit-59 m) (expanded-decimal m h)
character-read (char-hexadecimal {s = s} {n = n} m h) t =
    ap (λ (u : List ℕ). characters plain (38 ∷ 35 ∷ 120 ∷ u)) (append_assoc s (59 ∷ []) t)
    ∙ hex-read s t n (numeral-all (λ (b : ℕ). b ≡ 59 → ⊥) hexadigit-59 m) (expanded-hexadecimal m h)

tag-begins : (s : List ℕ) → characters plain (60 ∷ s) ≡ (tag 10 (bytes "</TD") (60 ∷ s) >>= λ rest. good ([], rest))
unfolding characters step follow close-TD
tag-begins s = refl

close-read : {z : List ℕ} → Tag (bytes "</TD") (bytes ">") z → (rest : List ℕ) → characters plain (z ++ rest) ≡ good ([], rest)
close-read (a-tag {w = w} h) rest = tag-begins _ ∙ rw (tag_read 10 {word = bytes "</TD"} (a-tag h) rest)

-- what is no 10 in a cell's text is none where its tag follows
no-feed : (s : List ℕ) {z : List ℕ} → ((t : List ℕ) → s ≡ 10 ∷ t → ⊥) → Tag (bytes "</TD") (bytes ">") z → (rest : List ℕ) → feed_first (s ++ (z ++ rest)) ≡ false
unfolding feed_first
no-feed [] n (a-tag h) rest = refl
no-feed (b ∷ s) n h rest = ne_eqb b 10 (λ e. n s (ap (λ (x : ℕ). x ∷ s) e))

pub characters-read : {b cs z : List ℕ} → Characters b cs → Tag (bytes "</TD") (bytes ">") z → (rest : List ℕ) → characters plain (b ++ (z ++ rest)) ≡ good (cs, rest)
unfolding cons_text
characters-read chars-end h rest = close-read h rest
characters-read {z = z} (chars-then {b = b} {s = s} c r) h rest = rw (append_assoc, character-read c (s ++ (z ++ rest)), characters-read r h rest)
characters-read {z = z} (chars-return {s = s} n r) h rest = return-alone-read (s ++ (z ++ rest)) (no-feed s n h rest) ∙ rw (characters-read r h rest)

-- what stands between `&` and `;`
expanded-is : (name : List ℕ) → Holds (Character (38 ∷ (name ++ (59 ∷ [])))) (expanded name)
unfolding expanded numeric
expanded-is name =
    holds-else (holds-bind (after_is 10 (bytes "#x") name) (λ t e.
    holds_as (λ f. 10) (holds-weaken (sized-is hexadigit Hexadigit 16 hexadigit-read hexadigit-is 8 t) (λ n h. rw e (char-hexadecimal h.0 h.1)))))
    (holds-else (holds-bind (after_is 10 (bytes "#") name) (λ t e. holds_as (λ f. 10) (holds-weaken (sized-is digit Digit 10 digit-read digit-is 8 t) (λ n h. rw e (char-decimal h.0 h.1)))))
    named-is)
  where
    named-is : Holds (Character (38 ∷ (name ++ (59 ∷ [])))) (named names name)
    named-is = unfold named names in
        holds-cond (same (bytes "amp") name) (λ h. holds (rw (← same-is _ _ h) char-amp)) (λ _.
        holds-cond (same (bytes "lt") name) (λ h. holds (rw (← same-is _ _ h) char-lt)) (λ _.
        holds-cond (same (bytes "gt") name) (λ h. holds (rw (← same-is _ _ h) char-gt)) (λ _.
        holds-cond (same (bytes "quot") name) (λ h. holds (rw (← same-is _ _ h) char-quot)) (λ _.
        holds-cond (same (bytes "apos") name) (λ h. holds (rw (← same-is _ _ h) char-apos)) (λ _. refuses)))))

-- what came before, in a state
abbrev before : Where → List ℕ
before plain = []
before (reference name) = 38 ∷ name

-- characters up to the end tag, and that tag
record InCell (w : Where) (s : List ℕ) (p : List ℕ × List ℕ) : Type 0 where
  body : List ℕ
  close : List ℕ
  whole : s ≡ body ++ (close ++ p.1)
  spelled : Characters (before w ++ body) p.0
  closed : Tag (bytes "</TD") (bytes ">") close

-- the state after a byte that is no end
on : (w v : Where) (b : ℕ) (s : List ℕ) (p : List ℕ × List ℕ) → ((t : List ℕ) → before v ++ t ≡ before w ++ (b ∷ t)) → InCell v s p → InCell w (b ∷ s) p
on w v b s p e h = record {
  body = b ∷ h.body;
  close = h.close;
  whole = ap (λ (t : List ℕ). b ∷ t) h.whole;
  spelled = subst (λ (t : List ℕ). Characters t p.0) (e h.body) h.spelled;
  closed = h.closed;
}

-- a byte that ends a character
ended : (w : Where) (b c : ℕ) (s : List ℕ) (p : List ℕ × List ℕ) → Character (before w ++ (b ∷ [])) c → InCell plain s p → InCell w (b ∷ s) (c ∷ p.0, p.1)
ended w b c s p k h = record {
  body = b ∷ h.body;
  close = h.close;
  whole = ap (λ (t : List ℕ). b ∷ t) h.whole;
  spelled = rw append_assoc at (chars-then k h.spelled);
  closed = h.closed;
}

-- a line end: a 13 with no 10 behind it, and one with a 10
alone : (s : List ℕ) (p : List ℕ × List ℕ) → feed_first s ≡ false → InCell plain s p → InCell plain (13 ∷ s) (10 ∷ p.0, p.1)
unfolding feed_first
alone s p f h = record {
  body = 13 ∷ h.body;
  close = h.close;
  whole = ap (λ (t : List ℕ). 13 ∷ t) h.whole;
  spelled = chars-return (λ t e. false≢true (sym f ∙ ap feed_first (h.whole ∙ ap (λ (u : List ℕ). u ++ (h.close ++ p.1)) e))) h.spelled;
  closed = h.closed;
}

paired : (s : List ℕ) (p : List ℕ × List ℕ) → InCell plain s p → InCell plain (13 ∷ 10 ∷ s) (10 ∷ p.0, p.1)
paired s p h = record {
  body = 13 ∷ 10 ∷ h.body;
  close = h.close;
  whole = ap (λ (t : List ℕ). 13 ∷ 10 ∷ t) h.whole;
  spelled = chars-then char-line-end h.spelled;
  closed = h.closed;
}

-- what is known behind the first byte of s
abbrev Behind : List ℕ → Type 0
Behind [] = Unit {0}
Behind (c ∷ t) = Holds (InCell plain t) (characters plain t)

return-is : (s : List ℕ) → Holds (InCell plain s) (characters plain s) → Behind s → Holds (InCell plain (13 ∷ s)) (characters plain (13 ∷ s))
return-is s ih behind = go (feed_first s) refl
  where
    single : feed_first s ≡ false → Holds (InCell plain (13 ∷ s)) (characters plain (13 ∷ s))
    single f = unfold cons_text in rw (return-alone-read s f) (holds-bind ih (λ p h. holds (alone s p f h)))

    double : (s : List ℕ) → Behind s → feed_first s ≡ true → Holds (InCell plain (13 ∷ s)) (characters plain (13 ∷ s))
    double [] b f = absurd (false≢true (unfold feed_first in f))
    double (c ∷ t) b f = unfold cons_text feed_first in
        rw (eqb-true c 10 f, return-goes-read (10 ∷ t) refl, feed-read t) (holds-bind b (λ p h. holds (paired t p h)))

    go : (x : Bool) → feed_first s ≡ x → Holds (InCell plain (13 ∷ s)) (characters plain (13 ∷ s))
    go true f = double s behind f
    go false f = single f

plain-is : (b : ℕ) (s : List ℕ) → ((v : Where) → Holds (InCell v s) (characters v s)) → Behind s → Holds (InCell plain (b ∷ s)) (characters plain (b ∷ s))
plain-is b s ih behind =
    first-cases (λ (c : ℕ). Holds (InCell plain (c ∷ s)) (characters plain (c ∷ s))) b s
    (λ _. return-is s (ih plain) behind)
    (λ _. return-is s (ih plain) behind)
    (λ n. unfold characters step follow cons_text close-TD in
    cond_cases Within (eqb b 60) tag_begins _
    (λ _. holds-bind (tag_is 10 (bytes "</TD") (b ∷ s)) (λ rest r. holds (record { body = []; close = r.taken; whole = r.whole; spelled = chars-end; closed = r.spelled })))
    (λ lt. cond_cases Within (eqb b 38) (goes (reference [])) _
    (λ amp. holds-weaken (ih (reference [])) (λ p h. on plain (reference []) b s p (λ t. ap (λ (x : ℕ). x ∷ t) (sym (eqb-true b 38 amp))) h))
    (λ amp. rw (ne_eqb b 13 n) (holds-bind (ih plain) (λ p h. holds (ended plain b b s p (char-itself (eqb-false b 60 lt) (eqb-false b 38 amp) n) h))))))
  where
    Within : Step → Type 0
    Within x = Holds (InCell plain (b ∷ s)) (follow x (b ∷ s) (λ v. characters v s))

reference-is : (name : List ℕ) (b : ℕ) (s : List ℕ) → ((v : Where) → Holds (InCell v s) (characters v s))
    → Holds (InCell (reference name) (b ∷ s)) (follow (step (reference name) b s) (b ∷ s) (λ v. characters v s))
unfolding step follow cons_text
reference-is name b s ih =
    cond_cases (λ (x : Step). Holds (InCell (reference name) (b ∷ s)) (follow x (b ∷ s) (λ v. characters v s))) (eqb b 59) (emitted (expanded name)) (goes (reference (name ++ (b ∷ []))))
    (λ e. go (expanded name) (subst (λ (x : ℕ). Holds (Character (38 ∷ (name ++ (x ∷ [])))) (expanded name)) (sym (eqb-true b 59 e)) (expanded-is name)))
    (λ _. holds-weaken (ih (reference (name ++ (b ∷ [])))) (λ p h. on (reference name) (reference (name ++ (b ∷ []))) b s p (λ t. ap (λ (x : List ℕ). 38 ∷ x) (append_assoc name (b ∷ []) t)) h))
  where
    go : (r : Result ℕ ℕ) → Holds (Character (38 ∷ (name ++ (b ∷ [])))) r → Holds (InCell (reference name) (b ∷ s)) (follow (emitted r) (b ∷ s) (λ v. characters v s))
    go (good c) (holds k) = unfold emitted in holds-bind (ih plain) (λ p h. holds (ended (reference name) b c s p k h))
    go (bad n) k = unfold emitted in refuses

characters-is : (w : Where) (s : List ℕ) → Holds (InCell w s) (characters w s)
unfolding characters
characters-is w [] = refuses
characters-is plain (b ∷ []) = plain-is b [] (λ v. characters-is v []) tt
characters-is plain (b ∷ c ∷ s) = plain-is b (c ∷ s) (λ v. characters-is v (c ∷ s)) (characters-is plain s)
characters-is (reference name) (b ∷ s) = reference-is name b s (λ v. characters-is v s)

-- ---- a cell's text

-- white space before
pub record Indented {A : Type 0} (P : List ℕ → A → Type 0) (s : List ℕ) (p : A × List ℕ) : Type 0 where
  pub white : List ℕ
  pub is_white : White white
  pub taken : List ℕ
  pub whole : s ≡ white ++ (taken ++ p.1)
  pub spelled : P taken p.0

pub ends-other : (n b c : ℕ) (word : List ℕ) {w : List ℕ} (rest : List ℕ) → is_white c ≡ false → eqb b c ≡ false → White w → ends n (b ∷ word) (w ++ (c ∷ rest)) ≡ bad n
unfolding ends after
ends-other n b c word rest h e w = rw (skip-white w (c ∷ rest), skip-stays c rest h, e)

abbrev inside : List ℕ → Result ℕ (List ℕ × List ℕ)
inside t = or_else (ends 10 (bytes "/>") t >>= λ rest. good ([], rest)) (ends 10 (bytes ">") t >>= λ u. characters plain u)

opens : {w : List ℕ} → White w → (t : List ℕ) → cell_text (w ++ (bytes "<TD" ++ t)) ≡ inside t
unfolding cell_text open-TD after
opens w t = rw (skip-white w (bytes "<TD" ++ t), skip-stays 60 (84 ∷ 68 ∷ t) (no-white 60 (lit≤ tt)))

pub cell-text-read : {w t cs : List ℕ} → White w → Marked t cs → (rest : List ℕ) → cell_text (w ++ (t ++ rest)) ≡ good (cs, rest)
cell-text-read {w} h (marked_empty (a-tag {w = u} k)) rest =
    opens h ((u ++ bytes "/>") ++ rest) ∙ rw (append_assoc u (bytes "/>") rest, ends-word 10 47 (62 ∷ []) rest (no-white 47 (lit≤ tt)) k)
cell-text-read {w} h (marked-text {b = b} {z = z} (a-tag {w = u} k) r c) rest =
    opens h _
    ∙ ap inside (append_assoc (u ++ bytes ">") (b ++ z) rest ∙ append_assoc u (bytes ">") ((b ++ z) ++ rest) ∙ ap (λ (x : List ℕ). u ++ (62 ∷ x)) (append_assoc b z rest))
    ∙ rw (ends-other 10 47 62 (62 ∷ []) (b ++ (z ++ rest)) (no-white 62 (lit≤ tt)) refl k, ends-word 10 62 [] (b ++ (z ++ rest)) (no-white 62 (lit≤ tt)) k)
    (characters-read r c rest)

pub cell-text-is : (s : List ℕ) → Holds (Indented Marked s) (cell_text s)
unfolding cell_text open-TD
cell-text-is s =
    holds-bind (after_is 10 (bytes "<TD") (skip_white s)) (λ t e.
    holds-else
    (holds-bind (ends_is 10 (bytes "/>") t) (λ rest r. holds (record {
      white = (skip_is s).taken;
      is_white = (skip_is s).spelled;
      taken = bytes "<TD" ++ (r.spelled.0 ++ bytes "/>");
      whole = (skip_is s).whole ∙ ap (λ (x : List ℕ). (skip_is s).taken ++ x) (e ∙ ap (λ (x : List ℕ). bytes "<TD" ++ x) (r.whole ∙ ap (λ (x : List ℕ). x ++ rest) r.spelled.2));
      spelled = marked_empty (a-tag r.spelled.1);
    })))
    (holds-bind (ends_is 10 (bytes ">") t) (λ u r. holds-weaken (characters-is plain u) (λ p h. record {
      white = (skip_is s).taken;
      is_white = (skip_is s).spelled;
      taken = (bytes "<TD" ++ (r.spelled.0 ++ bytes ">")) ++ (h.body ++ h.close);
      whole = (skip_is s).whole ∙ ap (λ (x : List ℕ). (skip_is s).taken ++ x) (e ∙ ap (λ (x : List ℕ). bytes "<TD" ++ x)
          (r.whole ∙ ap (λ (x : List ℕ). x ++ u) r.spelled.2 ∙ ap (λ (x : List ℕ). (r.spelled.0 ++ bytes ">") ++ x) (h.whole ∙ sym (append_assoc h.body h.close p.1))
          ∙ sym (append_assoc (r.spelled.0 ++ bytes ">") (h.body ++ h.close) p.1)));
      spelled = marked-text (a-tag r.spelled.1) h.spelled h.closed;
    }))))

-- ---- characters that may stand in a cell

pub text-read : {c : ℕ} → IsText c → is_text c ≡ true
unfolding is_text
text-read text-tab = refl
text-read text-line-feed = refl
text-read text-return = refl
text-read (text-other {c = c} h k) = rw (between-yes 32 127 c h k, or-true)

pub text-is : (c : ℕ) → is_text c ≡ true → IsText c
unfolding is_text
text-is c h =
    or-either (eqb c 9 || eqb c 10 || eqb c 13) (between 32 127 c) h
    (λ k. three-bytes IsText c 9 10 13 k text-tab text-line-feed text-return)
    (λ k. text-other (between_is 32 127 c k).0 (between_is 32 127 c k).1)

texts-read : (cs : List ℕ) → All IsText cs → all_text cs ≡ true
unfolding all_text
texts-read [] a = refl
texts-read (c ∷ cs) a = rw (text-read a.0) (texts-read cs a.1)

texts-are : (cs : List ℕ) → all_text cs ≡ true → All IsText cs
unfolding all_text
texts-are [] h = tt
texts-are (c ∷ cs) h = let k = and_both (is_text c) (all_text cs) h in (text-is c k.0, texts-are cs k.1)

-- ---- elements

bits_of : {cs : List ℕ} {es : List ℤ} → Trimmed BitLetters cs es → bit_words (words cs) ≡ good es
unfolding bit_words
bits_of (trimmed {w = w} {u = u} h bits-end k) = rw (words-white h u, words-blank k)
bits_of (trimmed h (bits-0 {s = s} r) k) = rw (words-trimmed {v = 48 ∷ s} h (omega arith, bit-letters-dark (bits-0 r)) k) (bits-read (bits-0 r))
bits_of (trimmed h (bits-1 {s = s} r) k) = rw (words-trimmed {v = 49 ∷ s} h (omega arith, bit-letters-dark (bits-1 r)) k) (bits-read (bits-1 r))

bits-in-word : {cs : List ℕ} {ws : List (List ℕ)} → OneWord cs ws → Holds (Trimmed BitLetters cs) (bit_words ws)
unfolding bit_words
bits-in-word (no_word h) = holds (subst (λ (x : List ℕ). Trimmed BitLetters x []) (append-nil _) (trimmed h bits-end white-end))
bits-in-word (one_word {v = v} h i k e) = holds-weaken (bits_are v) (λ es r. rw e (trimmed h r k))
bits-in-word (two-words v x vs) = refuses

word_read : (g : Bool) (w : ℕ) (s : List ℕ) (z : ℤ) → IntegerWord g w s z → integer_word g w s ≡ good z
unfolding integer_word
word_read g w s z h = rw (integer-read h)

word-is : (g : Bool) (w : ℕ) (s : List ℕ) → Holds (IntegerWord g w s) (integer_word g w s)
unfolding integer_word
word-is g w s = holds_as fault_number (integer-is g w s)

word-outside-read : (g : Bool) (w : ℕ) (s : List ℕ) → OutsideWord g w s → integer_word g w s ≡ bad 18
unfolding integer_word fault_number
word-outside-read g w s h = rw (outside-read h)

word-outside-is : (g : Bool) (w : ℕ) (s : List ℕ) → Fails (λ (n : ℕ). n ≡ 18 → OutsideWord g w s) (integer_word g w s)
unfolding integer_word fault_number
word-outside-is g w s = fails-as fault_number (outside-is g w s) number
  where
    number : (f : Fault) → (f ≡ Outside → OutsideWord g w s) → fault_number f ≡ 18 → OutsideWord g w s
    number Unwritten h e = absurd (omega (arith, e))
    number Outside h e = h refl

-- of characters that may stand in a cell
pub elements-read : {k : Shape} {cs : List ℕ} {es : List ℤ} → All IsText cs → TextElements k cs es → text_elements k cs ≡ good es
unfolding text_elements
elements-read a (text-truths h) = spaced-read TruthWord truth_word truth-read truth-is truth-word h
elements-read a (text-bits h) = bits_of h
elements-read a (text-whole {g = g} {v = v} h) =
    spaced-read (IntegerWord g (suc (last v))) (integer_word g (suc (last v))) (word_read g (suc (last v))) (word-is g (suc (last v))) integer-word h
elements-read a (text-chars {cs = cs}) = rw (texts-read cs a)

spelled : (k : Shape) (cs : List ℕ) → Holds (TextElements k cs) (text_elements k cs)
unfolding text_elements
spelled Truths cs = holds-weaken (spaced-is TruthWord truth_word truth-read truth-is truth-word cs) (λ es h. text-truths h)
spelled Bits cs = holds-weaken (bits-in-word (one-word-of cs)) (λ es h. text-bits h)
spelled (Whole g v) cs =
    holds-weaken (spaced-is (IntegerWord g (suc (last v))) (integer_word g (suc (last v))) (word_read g (suc (last v))) (word-is g (suc (last v))) integer-word cs) (λ es h. text-whole h)
spelled Text cs = holds-cond (all_text cs) (λ _. holds text-chars) (λ _. refuses)

pub elements-are : (k : Shape) (cs : List ℕ) → Holds (λ (es : List ℤ). All IsText cs × TextElements k cs es) (text_elements k cs)
elements-are k cs = holds-weaken (holds-eq (text_elements k cs)) (λ es e. (texts-are cs (holds_at (elements-text k cs) e), holds_at (spelled k cs) e))

-- ---- the first bad element

pub outside-elements : {k : Shape} {cs : List ℕ} → OutsideFirst k cs → text_elements k cs ≡ bad 18
unfolding text_elements
outside-elements (first-outside {g = g} {v = v} h) =
    let w = suc (last v) in
    first_read (IntegerWord g w) (integer_word g w) (word_read g w) (word-is g w) integer-word 18 (OutsideWord g w) (word-outside-read g w) (word-outside-is g w) outside-word h

pub elements-outside : (k : Shape) (cs : List ℕ) → Fails (λ (n : ℕ). n ≡ 18 → OutsideFirst k cs) (text_elements k cs)
elements-outside Truths cs = elements-fails (λ e. absurd (omega (arith, e))) Truths cs tt
elements-outside Bits cs = elements-fails (λ e. absurd (omega (arith, e))) Bits cs tt
elements-outside (Whole g v) cs =
    let w = suc (last v) in
    unfold text_elements in fails-weaken
    (first-is (IntegerWord g w) (integer_word g w) (word_read g w) (word-is g w) integer-word 18 (OutsideWord g w) (word-outside-read g w) (word-outside-is g w) outside-word cs)
    (λ n h e. first-outside (h e))
elements-outside Text cs = elements-fails (λ e. absurd (omega (arith, e))) Text cs tt

-- ---- how many

many_read : {k : Shape} {l : Len} {m : ℕ} → Many k l m → (room_fits k (room_in l m) m && leb m (bound l)) ≡ true
unfolding room_fits
many_read {k} (many-fixed {n = n}) = rw (room-self k n, le-leb n n (le_refl n))
many_read (many-shorter {n = n} {m = m} e h) = rw (e, le-leb m n h)
many_read {k} (many-bounded {n = n} {m = m} h) = rw (room-self k m, le-leb m n h)
many_read {k} (many-free {m = m} h) = rw (room-self k m, le-leb m most_elements h)

many_is : (k : Shape) (l : Len) (m : ℕ) → (room_fits k (room_in l m) m && leb m (bound l)) ≡ true → Many k l m
many_is k (Fixed n) m h = go k (and_both (room_fits k n m) (leb m n) h).0
  where
    go : (k : Shape) → room_fits k n m ≡ true → Many k (Fixed n) m
    go Truths h = unfold room_fits in rw (eqb-true m n h) many-fixed
    go Bits h = unfold room_fits in rw (eqb-true m n h) many-fixed
    go (Whole g v) h = unfold room_fits in rw (eqb-true m n h) many-fixed
    go Text h = unfold room_fits in many-shorter refl (leb-true m n h)
many_is k (Bounded n) m h = many-bounded (leb-true m n (and_both (room_fits k m m) (leb m n) h).1)
many_is k Free m h = many-free (leb-true m most_elements (and_both (room_fits k m m) (leb m most_elements) h).1)

pub fits_read : (c : Column) {m : ℕ} → Many (shape c.kind) c.len m → count_fits c m ≡ true
unfolding count_fits
fits_read c h = rw (many_read h, or-true)

pub fits-is : (c : Column) (m : ℕ) → count_fits c (suc m) ≡ true → Many (shape c.kind) c.len (suc m)
unfolding count_fits
fits-is c m h = or-either (eqb (suc m) 0) _ h (λ z. absurd (omega (arith, eqb-true (suc m) 0 z))) (λ z. many_is _ _ _ z)

-- ---- what a cell's characters show

nothing_left : (c : Column) → empty_is_null (show c []) ≡ null
unfolding show empty_is_null
nothing_left c = rw nil-not-null

something-left : (c : Column) (e : ℤ) (es : List ℤ) → empty_is_null (show c (e ∷ es)) ≡ show c (e ∷ es)
unfolding show empty_is_null
something-left c e es =
    cond_cases (λ (x : Cell). empty_is_null x ≡ x) (is_null_list (stands_for_null c) (e ∷ es)) null (shown (e ∷ es)) (λ _. refl) (λ _. refl)

text-shows-read : {c : Column} {cs : List ℕ} {x : Cell} → All IsText cs → TextShows c cs x → text_cell c cs ≡ good x
unfolding text_cell
text-shows-read {c} a (shows-empty h) = unfold count_fits in rw (elements-read a h) (ap good (nothing_left c))
text-shows-read {c} a (shows-elements {e = e} {es = es} h m s) = rw (elements-read a h, fits_read c m) (ap good (something-left c e es ∙ shows-read s))

text-shows-is : (c : Column) (cs : List ℕ) → Holds (λ (x : Cell). All IsText cs × TextShows c cs x) (text_cell c cs)
unfolding text_cell
text-shows-is c cs =
    holds-bind (elements-are (shape c.kind) cs) (λ es h. holds-cond (count_fits c (length es)) (λ m. holds (h.0, go es h.1 m)) (λ _. refuses))
  where
    go : (es : List ℤ) → TextElements (shape c.kind) cs es → count_fits c (length es) ≡ true → TextShows c cs (empty_is_null (show c es))
    go [] h m = rw (nothing_left c) (shows-empty h)
    go (e ∷ es) h m = rw (something-left c e es) (shows-elements h (fits-is c (length es) m) (shows-is c (e ∷ es)))

-- ---- a cell

pub cell-read : {c : Column} {w t : List ℕ} {x : Cell} → White w → TextCell c t x → (rest : List ℕ) → read_text c (w ++ (t ++ rest)) ≡ good (x, rest)
unfolding read_text
cell-read {c} w (text-cell m a x) rest = rw (cell-text-read w m rest, text-shows-read a x)

pub cell-is : (c : Column) (s : List ℕ) → Holds (Indented (TextCell c) s) (read_text c s)
unfolding read_text
cell-is c s = holds-bind (cell-text-is s) (λ p r. holds-bind (text-shows-is c p.0) (λ x a. holds (record {
  white = r.white;
  is_white = r.is_white;
  taken = r.taken;
  whole = r.whole;
  spelled = text-cell r.spelled a.0 a.1;
})))
