-- Elements in the scratch, counted on where it has no room, and a cell that was read up to a place (`ReadTo`): what the loops of `chars`,
-- `bits`, `truths` and `integers` keep, and each of their ways out.
use Prim.Native.Nat.{◌+◌, ◌<◌, ◌≤◌, ℕ}
use native.Mathlib.Nat.{le_refl}
use native.Mathlib.Numerals.{add-one}
use native.Mathlib.Omega.{arith}
use mathlib.Core.Bool.{Bool, false, true}
use mathlib.Core.List.{List, [], ◌++◌, ◌∷◌, append-nil}
use mathlib.Core.Path.{◌∙◌, ◌≡◌, ap, refl, sym}
use lib.Dec.{ltb}
use lib.IntN.{ℤ}
use lib.ListN.{drop, length, length-append, length-set, set, take}
use lib.Seq.{set_out, take_all, take-append-le, take-nil, take-suc-set}
use borrow.Author.Tests.{ltb-false, ltb-true}
use Rattle.table.specs.Result.{bad, good}
use Rattle.table.specs.Shape.{Shape}
use Rattle.tabledata.specs.TableData.{text_elements}
use Rattle.element_reading.proofs.Passing.{onward-bad, onward-broken, onward-end, passed-code, passed_none, passed_then}
use Rattle.character_reading.specs.Characters.{ItemIs, characters_of, spoiled_number}
use Rattle.element_reading.specs.Elements.{Passed, Stored, TakesElements, elements_from, onward}
use Rattle.character_reading.specs.declared.characters.Item.TheVariants.{Code, End}
use Rattle.element_reading.specs.declared.elements.Held.{Held}
use Rattle.std.specs.Prelude.{Err, Ok, Result as Outcome}
use Rattle.table.specs.Reasons.{number_of}
use Rattle.table.specs.declared.Reason.{Reason}
use Rattle.character_reading.specs.declared.characters.Source.{Source}

-- ---- elements in the scratch

pub stored-none : (l : List ℤ) → Stored [] 0 l
stored-none l = record { all = refl; first = sym (take-nil (length l)) }

pub stored_more : (es : List ℤ) (n : ℕ) (l : List ℤ) (x : ℤ) → Stored es n l → Stored (es ++ (x ∷ [])) (n + 1) (set l n x)
stored_more es n l x p = record { all = omega (arith, p.all, length-append es (x ∷ [])); first = go (ltb n (length l)) refl }
  where
    low : n < length l → take (n + 1) (set l n x) ≡ take (length (set l n x)) (es ++ (x ∷ []))
    low h =
        rw (add-one, take-suc-set l n x h, p.first, length-set l n x, take_all (length l) es (omega (arith, p.all)))
        (sym (take_all (length l) (es ++ (x ∷ [])) (omega (arith, p.all, length-append es (x ∷ [])))))

    high : length l ≤ n → take (n + 1) (set l n x) ≡ take (length (set l n x)) (es ++ (x ∷ []))
    high h =
        rw (set_out l n x h, take_all (n + 1) l (omega arith), take-append-le (length l) es (x ∷ []) (omega (arith, p.all)))
        (sym (take_all n l h) ∙ p.first)

    go : (b : Bool) → ltb n (length l) ≡ b → take (n + 1) (set l n x) ≡ take (length (set l n x)) (es ++ (x ∷ []))
    go true e = low (ltb-true n (length l) e)
    go false e = high (ltb-false n (length l) e)

-- after a store, of a value that is x
pub put-more : {es : List ℤ} {n : ℕ} {l m : List ℤ} {y x : ℤ} → Stored es n l → m ≡ set l n y → y ≡ x → Stored (es ++ (x ∷ [])) (n + 1) m
put-more {es} {n} {l} {x = x} p e q = rw (e, q) (stored_more es n l x p)

-- ---- a cell that was read up to a place: the characters w passed over have come to the elements es, which stand in the scratch

pub record ReadTo (As : List ℕ → List ℤ → Type 0) (source : Source) (s : List ℕ) (from i count : ℕ) (entry scratch : List ℤ) : Type 0 where
  pub w : List ℕ
  pub es : List ℤ
  pub means : As w es
  pub passed : Passed source s from i w
  pub stored : Stored es count scratch
  pub long : length scratch ≡ length entry
  pub few : count ≤ i
  pub low : from ≤ i
  pub high : i ≤ length s

pub read_none : {As : List ℕ → List ℤ → Type 0} {source : Source} {s : List ℕ} {from : ℕ} {entry : List ℤ} → As [] [] → from ≤ length s → ReadTo As source s from from 0 entry entry
read_none {from = from} a h = record {
  w = [];
  es = [];
  means = a;
  passed = passed_none;
  stored = stored-none _;
  long = refl;
  few = omega arith;
  low = le_refl from;
  high = h;
}

module _ {As : List ℕ → List ℤ → Type 0} {source : Source} {s : List ℕ} {from i n : ℕ} {entry l : List ℤ} (r : ReadTo As source s from i n entry l) where
  -- what is still to come decides, with w before it
  pub read-on : (k : Shape) → elements_from source k (drop from s) ≡ onward (λ cs. text_elements k (r.w ++ cs)) (characters_of source (drop i s))
  unfolding elements_from
  read-on k = r.passed.passes (text_elements k)

  pub read-broken : (k : Shape) {e : Reason} {t : Outcome Held Reason} → t ≡ Err e → characters_of source (drop i s) ≡ bad (number_of e)
      → TakesElements (elements_from source k (drop from s)) s from entry l t
  read-broken k q e = rw q (record { found = read-on k ∙ ap (onward (λ cs. text_elements k (r.w ++ cs))) e ∙ onward-broken _; long = r.long })

  pub read-end : (k : Shape) {next : ℕ} → ItemIs source (characters_of source (drop i s)) s i (Ok (End next)) → text_elements k r.w ≡ good r.es
      → TakesElements (elements_from source k (drop from s)) s from entry l (Ok (record { count = n; next = next }))
  read-end k {next} t e = record {
    found = (
      r.es,
      read-on k ∙ ap (onward (λ cs. text_elements k (r.w ++ cs))) t.found ∙ onward-end (λ cs. text_elements k (r.w ++ cs)) (drop next s)
          ∙ rw (append-nil r.w, e),
      r.stored,
      omega (arith, r.low, t.within.0),
      t.within.1,
    );
    long = r.long;
  }

  -- a character with which there is no value of the kind, whatever follows
  pub read-spoilt : (k : Shape) {c next : ℕ} {m : Reason} → ItemIs source (characters_of source (drop i s)) s i (Ok (Code c next))
      → ((v : List ℕ) → text_elements k (r.w ++ (c ∷ []) ++ v) ≡ bad 11) → number_of m ≡ spoiled_number (characters_of source (drop next s))
      → TakesElements (elements_from source k (drop from s)) s from entry l (Err m)
  unfolding elements_from
  read-spoilt k {c} {next} t f e =
      let p : Passed source s from next (r.w ++ (c ∷ [])) = passed_then r.passed (passed-code {s = s} {i = i} {j = next} {c = c} t.found) in
      record { found = p.passes (text_elements k) ∙ onward-bad (λ cs. text_elements k (r.w ++ (c ∷ []) ++ cs)) (characters_of source (drop next s)) f ∙ ap bad (sym e); long = r.long }

  -- a character more, which is stored
  pub read_more : {Next : List ℕ → List ℤ → Type 0} {c next : ℕ} {m : List ℤ} {x y : ℤ} → ItemIs source (characters_of source (drop i s)) s i (Ok (Code c next))
      → m ≡ set l n y → y ≡ x → Next (r.w ++ (c ∷ [])) (r.es ++ (x ∷ [])) → ReadTo Next source s from next (n + 1) entry m
  read_more t e q a = record {
    w = _;
    es = _;
    means = a;
    passed = passed_then r.passed (passed-code t.found);
    stored = put-more r.stored e q;
    long = ap length e ∙ simp length-set r.long;
    few = omega (arith, r.few, t.within.0);
    low = omega (arith, r.low, t.within.0);
    high = t.within.1;
  }
