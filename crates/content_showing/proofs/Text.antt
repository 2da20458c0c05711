-- Characters: which bytes each is written as, and what the first of them show.
use Prim.Native.Nat.{◌*◌, ◌+◌, ◌-◌, ◌<◌, ◌≤◌, suc, zero, ℕ}
use native.Mathlib.Omega.{arith}
use mathlib.Core.Bool.{Bool, ◌&&◌, ◌||◌, cond, false, false≢true, not, true}
use mathlib.Core.List.{List, [], ◌++◌, ◌∷◌, append_assoc, append-nil, map}
use mathlib.Core.Path.{◌∙◌, ◌≡◌, ap, refl, subst, sym}
use lib.Dec.{eqb, leb, ltb}
use lib.IntN.{pos, ℤ}
use lib.ListN.{drop, get_or, length, length-drop, length-map, replicate, take}
use lib.Seq.{drop-drop, get_or-drop, get_or-take, length-take-le, take-add, take-nil, take-take}
use mir.Val.{bool_byte}
use borrow.Author.Tests.{eqb-true, leb-true, lt-ltb, ltb-true, ne_eqb}
use Rattle.binary.proofs.Digits.{map-join}
use Rattle.binary.specs.Binary.{before_nul, content, content_bytes, element, numbers_in}
use Rattle.content_showing.proofs.Marked.{run-most}
use Rattle.content_showing.specs.Showing.{filled, is_itself, reference}
use Rattle.eights.specs.Marks.{run}
use Rattle.moving.proofs.Puts.{puts-as, puts-part, puts_then, puts-wrote}
use Rattle.moving.specs.Contents.{AsText, ContentMoved, InBinary}
use Rattle.moving.specs.Puts.{Puts}
use Rattle.number.proofs.Laws.{length_to}
use Rattle.number.specs.Number.{to_digits}
use Rattle.table.proofs.Bytes.{same-is}
use Rattle.table.proofs.Laws.{and_both, between_is, each_below}
use Rattle.table.proofs.Places.{done, next1}
use Rattle.table.specs.Bytes.{between, same}
use Rattle.table.specs.Result.{every, good}
use Rattle.table.specs.Shape.{Text}
use Rattle.table.specs.Wrote.{Wrote}
use Rattle.tabledata.specs.TableData.{element_text, escaped, form_of, forms, is_text}

-- ---- one character, by computation over the bytes

pub bit_le : (t : Bool) → bool_byte t ≤ 1
bit_le true = omega arith
bit_le false = omega arith

abbrev word_of : ℕ → ℕ
word_of b =
    bool_byte (eqb b 38) * 2765611974975815680 + bool_byte (eqb b 60) * 2768715667677904896 + bool_byte (eqb b 62) * 2767308292794351616
    + bool_byte (eqb b 13) * 2748172432069099520 + bool_byte (eqb b 9) * 648518346341351424 + bool_byte (eqb b 10) * 720575940379279360

abbrev size_of : ℕ → ℕ
size_of b = bool_byte (eqb b 38) * 5 + bool_byte (eqb b 60) * 4 + bool_byte (eqb b 62) * 4 + bool_byte (eqb b 13) * 5 + bool_byte (eqb b 9) + bool_byte (eqb b 10)

pub word-is : (b : ℕ) → b < 256 → to_digits 256 8 (word_of b) ≡ filled (reference b)
unfolding filled reference same to_digits
word-is b h = same-is _ _ (each_below (λ (b : ℕ). same (to_digits 256 8 (word_of b)) (filled (reference b))) 256 refl b h)

pub size_is : (b : ℕ) → b < 256 → size_of b ≡ length (reference b)
unfolding reference
size_is b h = eqb-true _ _ (each_below (λ (b : ℕ). eqb (size_of b) (length (reference b))) 256 refl b h)

pub size-le : (b : ℕ) → b < 256 → size_of b ≤ 8
size-le b h = leb-true _ _ (each_below (λ (b : ℕ). leb (size_of b) 8) 256 refl b h)

-- a character that shows, and what it is written as
pub record Formed (c : ℕ) (w : List ℕ) : Type 0 where
  pub shows : 0 < c
  pub char : c < 128
  pub form : form_of (pos c) ≡ good w

formed : (c : ℕ) (w : List ℕ) → (ltb 0 c && ltb c 128 && is_text c && same (escaped c) w) ≡ true → Formed c w
unfolding form_of
formed c w e =
    let u = and_both (ltb 0 c && ltb c 128 && is_text c) _ e in
    let v = and_both (ltb 0 c && ltb c 128) _ u.0 in
    let t = and_both (ltb 0 c) _ v.0 in
    record { shows = ltb-true _ _ t.0; char = ltb-true _ _ t.1; form = rw (v.1, same-is _ _ u.1) }

-- a test that is refuted or met, over the bytes
either : {P : Type 0} (a b : Bool) → (not a || b) ≡ true → a ≡ true → (b ≡ true → P) → P
either true b h e f = f h
either false b h e f = absurd (false≢true e)

pub itself-formed : (c : ℕ) → is_itself c ≡ true → Formed c (c ∷ [])
unfolding is_itself is_text escaped between same
itself-formed c e =
    let u = and_both (between 32 127 c && not (eqb c 38) && not (eqb c 60)) _ e in
    let v = and_both (between 32 127 c && not (eqb c 38)) _ u.0 in
    let l = between_is 32 127 c (and_both (between 32 127 c) _ v.0).0 in
    either (is_itself c) _
    (each_below (λ (c : ℕ). not (is_itself c) || (ltb 0 c && ltb c 128 && is_text c && same (escaped c) (c ∷ []))) 128 refl c (omega (arith, l.1))) e
    (formed c (c ∷ []))

pub reference-formed : (c : ℕ) → c < 256 → 0 < length (reference c) → Formed c (reference c)
unfolding is_text escaped reference between same
reference-formed c h some =
    either (ltb 0 (length (reference c))) _
    (each_below (λ (c : ℕ). not (ltb 0 (length (reference c))) || (ltb 0 c && ltb c 128 && is_text c && same (escaped c) (reference c))) 256 refl c h)
    (lt-ltb _ _ some) (formed c (reference c))

-- ---- bytes of a content, the elements they show, and these as text

pub record Shows (p : List ℕ) (es : List ℤ) (b : List ℕ) : Type 0 where
  pub elements : every (element Text) (before_nul p) ≡ good es
  pub text : forms es ≡ good b

pub shows-none : Shows [] [] []
unfolding before_nul every forms
shows-none = record { elements = refl; text = refl }

shows-nul : (p : List ℕ) → Shows (0 ∷ p) [] []
unfolding before_nul every forms
shows-nul p = record { elements = refl; text = refl }

shows_more : (c : ℕ) (w p : List ℕ) (es : List ℤ) (b : List ℕ) → Formed c w → Shows p es b → Shows (c ∷ p) (pos c ∷ es) (w ++ b)
unfolding before_nul every forms element
shows_more c w p es b f s = record {
  elements = rw (ne_eqb c 0 (λ e. omega (arith, e, f.shows)), lt-ltb c 128 f.char, s.elements);
  text = rw (f.form, s.text);
}

shows-run : (k : ℕ) (p : List ℕ) (es : List ℤ) (b : List ℕ) → k ≤ run is_itself p → Shows (drop k p) es b → Shows p (map pos (take k p) ++ es) (take k p ++ b)
unfolding run
shows-run zero p es b h s = s
shows-run (suc k) [] es b h s = absurd (omega arith)
shows-run (suc k) (c ∷ p) es b h s = by (is_itself c) refl h (λ q. shows-run k p es b q s)
  where
    by : (t : Bool) → is_itself c ≡ t → suc k ≤ cond t (suc (run is_itself p)) 0 → (k ≤ run is_itself p → Shows p (map pos (take k p) ++ es) (take k p ++ b))
        → Shows (c ∷ p) (pos c ∷ (map pos (take k p) ++ es)) (c ∷ (take k p ++ b))
    by true e q f = shows_more c (c ∷ []) p _ _ (itself-formed c e) (f (omega arith))
    by false e q f = absurd (omega arith)

-- ---- the first k bytes of a content show as b: whatever the rest shows, the whole shows these and that

pub record TextTo (p : List ℕ) (k : ℕ) (b : List ℕ) : Type 0 where
  pub onward : (es : List ℤ) (c : List ℕ) → Shows (drop k p) es c → Shows p (map pos (take k p) ++ es) (b ++ c)

pub text-start : (p : List ℕ) → TextTo p 0 []
text-start p = record { onward = λ es c s. s }

pub run-shown : (p : List ℕ) (k r : ℕ) (b : List ℕ) → r ≤ run is_itself (drop k p) → TextTo p k b → TextTo p (k + r) (b ++ take r (drop k p))
run-shown p k r b h t = record {
  onward = λ es c s.
      let d : drop (k + r) p ≡ drop r (drop k p) = sym (drop-drop r k p) in
      let front : map pos (take k p) ++ (map pos (take r (drop k p)) ++ es) ≡ map pos (take (k + r) p) ++ es =
      sym (append_assoc (map pos (take k p)) (map pos (take r (drop k p))) es)
      ∙ ap (λ (l : List ℤ). l ++ es) (sym (ap (map pos) (take-add k r p) ∙ map-join pos (take k p) (take r (drop k p)))) in
      subst (λ (l : List ℤ). Shows p l (b ++ take r (drop k p) ++ c)) front
      (subst (λ (l : List ℕ). Shows p (map pos (take k p) ++ (map pos (take r (drop k p)) ++ es)) l) (sym (append_assoc b (take r (drop k p)) c))
      (t.onward _ _ (shows-run r (drop k p) es c h (subst (λ (l : List ℕ). Shows l es c) d s))));
}

pub char-shown : (p : List ℕ) (k c : ℕ) (b w : List ℕ) → k < length p → c ≡ get_or p k 0 → Formed c w → TextTo p k b → TextTo p (k + 1) (b ++ w)
char-shown p k c b w h e f t = record {
  onward = λ es d s.
      let q : c ∷ drop (k + 1) p ≡ drop k p = ap {B = List ℕ} (λ (x : ℕ). x ∷ drop (k + 1) p) e ∙ sym (next1 p k h) in
      let one : take 1 (drop k p) ≡ c ∷ [] = ap (take 1) (sym q) in
      let front : map pos (take k p) ++ (pos c ∷ es) ≡ map pos (take (k + 1) p) ++ es =
      sym (append_assoc (map pos (take k p)) (pos c ∷ []) es)
      ∙ ap (λ (l : List ℤ). l ++ es) (sym (ap (map pos) (take-add k 1 p ∙ ap (λ (l : List ℕ). take k p ++ l) one) ∙ map-join pos (take k p) (c ∷ []))) in
      subst (λ (l : List ℤ). Shows p l (b ++ w ++ d)) front
      (subst (λ (l : List ℕ). Shows p (map pos (take k p) ++ (pos c ∷ es)) l) (sym (append_assoc b w d))
      (t.onward _ _ (subst (λ (l : List ℕ). Shows l (pos c ∷ es) (w ++ d)) q (shows_more c w (drop (k + 1) p) es d f s))));
}

text-ends : (p : List ℕ) (k : ℕ) (b : List ℕ) → TextTo p k b → Shows (drop k p) [] [] → Shows p (map pos (take k p)) b
text-ends p k b t s =
    subst (λ (l : List ℤ). Shows p l b) (append-nil (map pos (take k p)))
    (subst (λ (l : List ℕ). Shows p (map pos (take k p) ++ []) l) (append-nil b) (t.onward [] [] s))

pub text-nul : (p : List ℕ) (k : ℕ) → k < length p → get_or p k 0 ≡ 0 → Shows (drop k p) [] []
text-nul p k h e = subst (λ (l : List ℕ). Shows l [] []) (ap {B = List ℕ} (λ (x : ℕ). x ∷ drop (k + 1) p) (sym e) ∙ sym (next1 p k h)) (shows-nul (drop (k + 1) p))

pub text-all : (p : List ℕ) (k : ℕ) → length p ≤ k → Shows (drop k p) [] []
text-all p k h = subst (λ (l : List ℕ). Shows l [] []) (sym (done p k h)) shows-none

-- a content is moved when what is left of it shows nothing
pub text-moved : {old new s : List ℕ} {o e at n k : ℕ} (b : List ℕ) → TextTo (take n (drop at s)) k b → k ≤ length (take n (drop at s))
    → Puts old o b new e → Shows (drop k (take n (drop at s))) [] [] → ContentMoved (InBinary Text n s at) (AsText Text) old o new k (at + n) e
unfolding content numbers_in content_bytes element_text
text-moved {old} {new} {s} {o} {e} {at} {n} {k} b t h u z =
    let p : List ℕ = take n (drop at s) in
    let w = text-ends p k b t z in
    record {
      es = map pos (take k p);
      bytes = b;
      reads = record { elements = w.elements; next-is = refl };
      writes = w.text;
      puts = u;
      count-is = sym (length-map (take k p) pos ∙ length-take-le k p h);
    }

pub drop_of_take : (k n : ℕ) (l : List ℕ) → drop k (take n l) ≡ take (n - k) (drop k l)
drop_of_take zero n l = let e : n ≡ n - 0 = omega arith in ap (λ (m : ℕ). take m l) e
drop_of_take (suc k) zero l = let e : 0 ≡ 0 - suc k = omega arith in ap (λ (m : ℕ). take m (drop (suc k) l)) e
drop_of_take (suc k) (suc n) [] = sym (take-nil (suc n - suc k))
drop_of_take (suc k) (suc n) (x ∷ l) = let e : n - k ≡ suc n - suc k = omega arith in drop_of_take k n l ∙ ap (λ (m : ℕ). take m (drop k l)) e

-- ---- the loop: the first k bytes are put

pub record TextPut (p old : List ℕ) (o : ℕ) (new : List ℕ) (e k : ℕ) : Type 0 where
  pub bytes : List ℕ
  pub shown : TextTo p k bytes
  pub puts : Puts old o bytes new e
  pub within : k ≤ length p

module _ (s : List ℕ) (at n : ℕ) (h : at + n ≤ length s) where
  pub part-long : length (take n (drop at s)) ≡ n
  part-long = length-take-le n (drop at s) (simp length-drop (omega arith))

  pub part_at : (k : ℕ) → k < n → get_or (take n (drop at s)) k 0 ≡ get_or s (at + k) 0
  part_at k i = get_or-take n (drop at s) k 0 i ∙ get_or-drop at s k 0

  part-from : (k : ℕ) → drop k (take n (drop at s)) ≡ take (n - k) (drop (at + k) s)
  part-from k = drop_of_take k n (drop at s) ∙ ap (take (n - k)) (drop-drop k at s)

  -- a run more
  pub put-run : {old row new : List ℕ} {o e next k : ℕ} (r : ℕ) → r ≤ run is_itself (take (n - k) (drop (at + k) s))
      → Puts row e (take r (drop (at + k) s)) new next → TextPut (take n (drop at s)) old o row e k → TextPut (take n (drop at s)) old o new next (k + r)
  put-run {k = k} r i u t =
      let most : r ≤ n - k = run-most is_itself (drop (at + k) s) (n - k) r i in
      let same : take r (drop (at + k) s) ≡ take r (drop k (take n (drop at s))) = sym (ap (take r) (part-from k) ∙ take-take r (n - k) (drop (at + k) s) most) in
      record {
        bytes = t.bytes ++ take r (drop k (take n (drop at s)));
        shown = run-shown (take n (drop at s)) k r t.bytes (rw (part-from k) i) t.shown;
        puts = puts_then t.puts (puts-as same u);
        within = omega (arith, t.within, part-long);
      }

  -- a reference more
  pub put-char : {old row new : List ℕ} {o e next k : ℕ} (c : ℕ) → k < n → c ≡ get_or s (at + k) 0 → c < 256 → (next ≡ e → ⊥)
      → Puts row e (reference c) new next → TextPut (take n (drop at s)) old o row e k → TextPut (take n (drop at s)) old o new next (k + 1)
  put-char {k = k} c i q b some u t = record {
    bytes = t.bytes ++ reference c;
    shown = char-shown (take n (drop at s)) k c t.bytes (reference c) (omega (arith, part-long)) (q ∙ sym (part_at k i)) (reference-formed c b (omega (arith, some, u.next-is))) t.shown;
    puts = puts_then t.puts u;
    within = omega (arith, t.within, part-long);
  }

  -- what is put is the whole
  pub moved_all : {old new : List ℕ} {o e k : ℕ} → TextPut (take n (drop at s)) old o new e k → k ≡ n
      → ContentMoved (InBinary Text n s at) (AsText Text) old o new k (at + n) e
  moved_all {k = k} t q = text-moved t.bytes t.shown t.within t.puts (text-all (take n (drop at s)) k (omega (arith, part-long)))

  pub moved-nul : {old new : List ℕ} {o e k : ℕ} → TextPut (take n (drop at s)) old o new e k → k < n → get_or s (at + k) 0 ≡ 0
      → ContentMoved (InBinary Text n s at) (AsText Text) old o new k (at + n) e
  moved-nul {k = k} t i z =
      text-moved t.bytes t.shown t.within t.puts (text-nul (take n (drop at s)) k (omega (arith, part-long)) (part_at k i ∙ z))

pub reference-put : {l l₁ : List ℕ} {o e r : ℕ} (b x : ℕ) → to_digits 256 8 x ≡ filled (reference b) → Wrote l o (to_digits 256 8 x) l₁ e → o + 8 ≤ length l
    → r ≡ length (reference b) → Puts l o (reference b) l₁ (o + r)
unfolding filled
reference-put {l} {l₁} {o} b x q w h n =
    subst (λ (k : ℕ). Puts l o (reference b) l₁ (o + k)) (sym n)
    (puts-part (reference b) (replicate (8 - length (reference b)) 0) (puts-as q (puts-wrote w (omega (arith, length_to 256 8 x)))))
