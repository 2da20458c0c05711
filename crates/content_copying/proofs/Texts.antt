-- The characters of a char cell and the bytes they are written as: runs of bytes that are both, and references.
use Prim.Native.Nat.{◌+◌, ◌-◌, ◌<◌, ◌≤◌, ℕ}
use native.Mathlib.Omega.{arith}
use mathlib.Core.Bool.{◌&&◌, not, true}
use mathlib.Core.List.{List, [], ◌++◌, ◌∷◌, append_assoc, append-nil, map}
use mathlib.Core.Path.{◌∙◌, ◌≡◌, ap, refl, subst, sym}
use lib.Dec.{eqb}
use lib.IntN.{pos, ℤ}
use lib.ListN.{drop, get_or, length, length-append, length-map, take}
use borrow.Author.Tests.{eqb-false, not-true}
use Rattle.binary.proofs.Digits.{map-join}
use Rattle.content_reading.proofs.Runs.{pass-long}
use Rattle.content_reading.specs.Passing.{PassTo}
use Rattle.content_reading.proofs.Chars.{all-text}
use Rattle.integer_reading.proofs.Spelling.{Itself, spells-none, spells_one, spells_then, spells-to}
use Rattle.content_showing.proofs.Text.{Formed, itself-formed, reference-formed}
use Rattle.content_showing.specs.Showing.{is_itself, reference}
use Rattle.moving.proofs.Puts.{puts_none, puts_then}
use Rattle.moving.specs.Contents.{AsText, ContentMoved, InText, Spells}
use Rattle.moving.specs.Puts.{Puts}
use Rattle.table.proofs.Laws.{all_append, all-weaken, and_both, between_is}
use Rattle.table.specs.All.{All}
use Rattle.table.specs.Bytes.{between}
use Rattle.table.specs.Result.{Result, ◌>>=◌, bad, good}
use Rattle.table.specs.Shape.{Text}
use Rattle.tabledata.proofs.Characters.{text-yes}
use Rattle.tabledata.proofs.Laws.{text-lt}
use Rattle.tabledata.specs.TableData.{element_text, form_of, forms, is_text, text_elements}

-- ---- what characters are written as

forms-join : (es ds : List ℤ) (c : List ℕ) → forms ds ≡ good c → forms (es ++ ds) ≡ (forms es >>= λ b. good (b ++ c))
unfolding forms
forms-join [] ds c h = h
forms-join (e ∷ es) ds c h = rw (forms-join es ds c h) (by (form_of e) (forms es))
  where
    by : (r t : Result ℕ (List ℕ)) → (r >>= λ b. t >>= (λ a. good (a ++ c)) >>= λ a. good (b ++ a)) ≡ (r >>= (λ b. t >>= λ a. good (b ++ a)) >>= λ b. good (b ++ c))
    by (bad n) t = refl
    by (good b) (bad n) = refl
    by (good b) (good a) = ap good (sym (append_assoc b a c))

-- the characters w are written as b
abbrev WrittenAs : List ℕ → List ℕ → Type 0
WrittenAs w b = forms (map pos w) ≡ good b

written_then : (w v b c : List ℕ) → WrittenAs w b → WrittenAs v c → WrittenAs (w ++ v) (b ++ c)
written_then w v b c p q = ap forms (map-join pos w v) ∙ forms-join (map pos w) (map pos v) c q ∙ rw p

-- ---- characters that go as they stand

itself-is : (c : ℕ) → is_itself c ≡ true → Itself c × (is_text c ≡ true)
unfolding is_itself
itself-is c e =
    let u = and_both (between 32 127 c && not (eqb c 38) && not (eqb c 60)) _ e in
    let v = and_both (between 32 127 c && not (eqb c 38)) _ u.0 in
    let t = and_both (between 32 127 c) _ v.0 in
    let l = between_is 32 127 c t.0 in
    ((eqb-false c 60 (not-true (eqb c 60) v.1), eqb-false c 38 (not-true (eqb c 38) t.1), λ q. omega (arith, l, q)), text-yes c l.0 l.1)

run-written : (w : List ℕ) → All (λ (c : ℕ). is_itself c ≡ true) w → WrittenAs w w
unfolding forms
run-written [] a = refl
run-written (c ∷ w) a = rw ((itself-formed c a.0).form, run-written w a.1)

letter-written : (c : ℕ) → Formed c (reference c) → WrittenAs (c ∷ []) (reference c)
unfolding forms
letter-written c f = rw (f.form, append-nil)

-- a `>` is itself
pub bare-letter : (s : List ℕ) (at : ℕ) → at < length s → get_or s at 0 ≡ 62 → Spells s at (at + 1) (62 ∷ []) × (is_text 62 ≡ true) × (at < at + 1)
bare-letter s at h e = (
  subst (λ (c : ℕ). Spells s at (at + 1) (c ∷ [])) e (spells_one s at h (λ f. omega (arith, e, f), λ f. omega (arith, e, f), λ f. omega (arith, e, f))),
  text-yes 62 (omega arith) (omega arith),
  omega arith,
)

-- ---- what is copied so far

pub record TextTo (s : List ℕ) (from at : ℕ) (old : List ℕ) (first : ℕ) (new : List ℕ) (o count : ℕ) : Type 0 where
  pub w : List ℕ
  pub b : List ℕ
  pub text : All (λ (c : ℕ). is_text c ≡ true) w
  pub spells : Spells s from at w
  pub written : forms (map pos w) ≡ good b
  pub puts : Puts old first b new o
  pub counted : count ≡ length w
  pub few : from + count ≤ at

pub text-start : {s : List ℕ} {from : ℕ} {old : List ℕ} {first : ℕ} → from ≤ length s → first ≤ length old → TextTo s from from old first old first 0
unfolding forms
text-start {s} {from} {old} {first} h k = record {
  w = [];
  b = [];
  text = tt;
  spells = spells-none s from h;
  written = refl;
  puts = puts_none old first k;
  counted = refl;
  few = omega arith;
}

module _ {s : List ℕ} {from at : ℕ} {old : List ℕ} {first : ℕ} {new : List ℕ} {o count : ℕ} (r : TextTo s from at old first new o count) {next : ℕ} where
  pub text-run : {new' : List ℕ} {e : ℕ} → PassTo is_itself s at next → Puts new o (take (next - at) (drop at s)) new' e → TextTo s from next old first new' e (count + (next - at))
  text-run p q =
      let v : List ℕ = take (next - at) (drop at s) in
      record {
        w = r.w ++ v;
        b = r.b ++ v;
        text = all_append _ r.w v r.text (all-weaken _ _ v (λ c h. (itself-is c h).1) p.passing);
        spells = spells_then r.spells (spells-to s at next p.low p.high (all-weaken _ _ v (λ c h. (itself-is c h).0) p.passing));
        written = written_then r.w v r.b v r.written (run-written v p.passing);
        puts = puts_then r.puts q;
        counted = omega (arith, r.counted, length-append r.w v, pass-long p);
        few = omega (arith, r.few, p.low);
      }

  -- a character more, written as a reference or as itself
  pub text-letter : {c : ℕ} {new' : List ℕ} {e : ℕ} → Spells s at next (c ∷ []) × (is_text c ≡ true) × (at < next) → (e ≡ o → ⊥) → Puts new o (reference c) new' e
      → TextTo s from next old first new' e (count + 1)
  text-letter {c} p some q = record {
    w = r.w ++ (c ∷ []);
    b = r.b ++ reference c;
    text = all_append _ r.w (c ∷ []) r.text (p.1, tt);
    spells = spells_then r.spells p.0;
    written = written_then r.w (c ∷ []) r.b (reference c) r.written (letter-written c (reference-formed c (omega (arith, text-lt c p.1)) (omega (arith, some, q.next-is))));
    puts = puts_then r.puts q;
    counted = omega (arith, r.counted, length-append r.w (c ∷ []));
    few = omega (arith, r.few, p.2);
  }

pub text-moved : {s : List ℕ} {from at : ℕ} {old : List ℕ} {first : ℕ} {new : List ℕ} {o count : ℕ} → TextTo s from at old first new o count
    → ContentMoved (InText Text s from) (AsText Text) old first new count at o
unfolding text_elements element_text
text-moved r = record {
  es = map pos r.w;
  bytes = r.b;
  reads = record { word = r.w; spells = r.spells; elements = rw (all-text r.w r.text) };
  writes = r.written;
  puts = r.puts;
  count-is = r.counted ∙ sym (length-map r.w (λ (c : ℕ). pos c));
}
