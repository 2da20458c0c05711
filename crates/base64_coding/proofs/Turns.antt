-- One turn of the two passes: bytes in front of those that the rest gives, counted and stored.
use Prim.Native.Nat.{◌*◌, ◌+◌, ◌-◌, ◌/◌, ◌<◌, ◌≤◌, ℕ}
use native.Mathlib.Nat.{add-zero, zero-add}
use native.Mathlib.Omega.{arith}
use mathlib.Core.List.{List, [], ◌++◌}
use mathlib.Core.Path.{◌∙◌, ◌≡◌, ap, ap₂, refl, subst, sym}
use lib.ListN.{drop, length, length-append, take}
use lib.Seq.{length-take-le, sets, sets-eq}
use Rattle.base64_rules.specs.Base64.{decode}
use Rattle.base64_coding.proofs.Fours.{white-skipped}
use Rattle.text.specs.Clauses.{Skipped}
use Rattle.base64_coding.proofs.High.{decoded-low}
use Rattle.base64_coding.proofs.Plain.{FourLetters, Stored, fours-count, fours-length, fours-more}
use Rattle.base64_coding.specs.Clauses.{FitsAt, FourIs, LettersTo, Low, before, buffer_with, decoded_size, fours_bytes}
use Rattle.base64_coding.specs.declared.decoding.Four.{Four}
use Rattle.std.specs.Prelude.{Option, None, Some}
use Rattle.table.proofs.Wrote.{sets-append, wrote-long}
use Rattle.table.specs.Wrote.{Wrote}
use Rattle.table.specs.Result.{Result, bad, good}

pub size-before : (n : ℕ) (p : List ℕ) (r : Result ℕ (List ℕ)) → decoded_size n (before p r) ≡ decoded_size (n + length p) r
unfolding decoded_size
size-before n p (bad e) = refl
size-before n p (good q) = ap good (rw length-append (omega arith))

pub fits-before : (n m : ℕ) (p : List ℕ) (r : Result ℕ (List ℕ)) → FitsAt n (before p r) m → (n + length p ≤ m) × FitsAt (n + length p) r m
unfolding FitsAt
fits-before n m p (bad e) f = absurd f
fits-before n m p (good q) f = let l = length-append p q in (omega arith, omega arith)

pub buffer-before : (n m : ℕ) (p out : List ℕ) (r : Result ℕ (List ℕ)) → FitsAt n (before p r) m → buffer_with (sets out n p) (n + length p) r ≡ buffer_with out n (before p r)
unfolding FitsAt buffer_with
buffer-before n m p out (bad e) f = absurd f
buffer-before n m p out (good q) f = sets-append p q out n

-- from the start: the bytes, and then what stood there
pub sets-start : (b out : List ℕ) → length b ≤ length out → sets out 0 b ≡ b ++ drop (length b) out
sets-start b out h = sets-eq b out 0 (omega arith) ∙ ap (λ (k : ℕ). b ++ drop k out) (zero-add (length b))

-- ---- a turn, by how many bytes it gives

module _ (n k : ℕ) (p : List ℕ) (r rest : Result ℕ (List ℕ)) (e : r ≡ before p rest) (l : length p ≡ k) where
  pub size-turn : (whole : Result ℕ ℕ) → whole ≡ decoded_size n r → whole ≡ decoded_size (n + k) rest
  size-turn whole w = w ∙ ap (decoded_size n) e ∙ size-before n p rest ∙ ap (λ (j : ℕ). decoded_size (n + j) rest) l

  pub fits-turn : (m : ℕ) → FitsAt n r m → (n + k ≤ m) × FitsAt (n + k) rest m
  fits-turn m f =
      let g = fits-before n m p rest (subst (λ (q : Result ℕ (List ℕ)). FitsAt n q m) e f) in
      (omega arith, subst (λ (j : ℕ). FitsAt (n + j) rest m) l g.1)

  pub buffer-turn : (m : ℕ) (out new whole : List ℕ) → FitsAt n r m → new ≡ sets out n p → buffer_with out n r ≡ whole → buffer_with new (n + k) rest ≡ whole
  buffer-turn m out new whole f s w =
      ap₂ (λ (b : List ℕ) (j : ℕ). buffer_with b (n + j) rest) s (sym l)
      ∙ buffer-before n m p out rest (subst (λ (q : Result ℕ (List ℕ)). FitsAt n q m) e f) ∙ ap (buffer_with out n) (sym e) ∙ w

-- ---- what the careful way gave

pub record Gave (s : List ℕ) (i : ℕ) (f : Four) : Type 0 where
  pub rest : decode (drop i s) ≡ before (take f.count f.bytes) (decode (drop f.next s))
  pub long : length (take f.count f.bytes) ≡ f.count
  pub few : f.count ≤ 3
  pub far : i + f.count ≤ f.next
  pub within : f.next ≤ length s
  pub last : f.count < 3 → decode (drop f.next s) ≡ good []

pub gave : (s : List ℕ) (i : ℕ) (r : Option Four) (f : Four) → FourIs s i r → r ≡ Some f → length f.bytes ≡ 3 → Gave s i f
gave s i r f h e l =
    let g : FourIs s i (Some f) = subst (FourIs s i) e h in
    record {
      rest = g.rest;
      long = let few = g.places.0 in length-take-le f.count f.bytes (omega arith);
      few = g.places.0;
      far = g.places.1;
      within = g.places.2;
      last = g.places.3;
    }

pub refused : (s : List ℕ) (i : ℕ) (r : Option Four) → FourIs s i r → r ≡ None → decode (drop i s) ≡ bad 7
refused s i r f e = (subst (FourIs s i) e f).rest

-- the two kinds of turns: a run of letters, or the careful way
module _ {s : List ℕ} {from to : ℕ} (l : LettersTo s from to) (n : ℕ) where
  long : length (fours_bytes s from l.count) ≡ (to - from) / 4 * 3
  long = let e = fours-length s from l.count in let k = fours-count s from to l in omega arith

  pub fours-size : (whole : Result ℕ ℕ) → whole ≡ decoded_size n (decode (drop from s)) → whole ≡ decoded_size (n + (to - from) / 4 * 3) (decode (drop to s))
  fours-size = size-turn n ((to - from) / 4 * 3) (fours_bytes s from l.count) _ _ l.rest long

  pub fours-fits : (m : ℕ) → FitsAt n (decode (drop from s)) m → (n + (to - from) / 4 * 3 ≤ m) × FitsAt (n + (to - from) / 4 * 3) (decode (drop to s)) m
  fours-fits = fits-turn n ((to - from) / 4 * 3) (fours_bytes s from l.count) _ _ l.rest long

  pub fours-buffer : (m : ℕ) (out new whole : List ℕ) → FitsAt n (decode (drop from s)) m → new ≡ sets out n (fours_bytes s from ((to - from) / 4))
      → buffer_with out n (decode (drop from s)) ≡ whole → buffer_with new (n + (to - from) / 4 * 3) (decode (drop to s)) ≡ whole
  fours-buffer m out new whole f e =
      buffer-turn n ((to - from) / 4 * 3) (fours_bytes s from l.count) _ _ l.rest long m out new whole f
      (e ∙ ap (λ (g : ℕ). sets out n (fours_bytes s from g)) (sym (fours-count s from to l)))

-- after white space and a run of letters: where the text goes on, and that the bytes so far and those of the rest make the whole
pub record Counted (s : List ℕ) (from to n : ℕ) : Type 0 where
  pub far : from ≤ to
  pub within : to ≤ length s
  pub few : n ≤ to
  pub whole : decoded_size 0 (decode s) ≡ decoded_size n (decode (drop to s))

pub counted : {s : List ℕ} {i from to n : ℕ} → Skipped s i from → LettersTo s from to → n ≤ i → decoded_size 0 (decode s) ≡ decoded_size n (decode (drop i s))
    → Counted s from to (n + (to - from) / 4 * 3)
counted {s} {i} {from} {to} {n} white run few whole =
    let low = white.low in let far = run.far in
    record {
      far = omega arith;
      within = run.within;
      few = omega arith;
      whole = fours-size run n _ (whole ∙ ap (decoded_size n) (white-skipped _ _ _ white));
    }

-- while bytes are stored: those of what is left of the text, stored from n on, make the whole
pub record Storing (s old out : List ℕ) (i n : ℕ) : Type 0 where
  pub low : Low s
  pub same : length out ≡ length old
  pub within : i ≤ length s
  pub fits : FitsAt n (decode (drop i s)) (length old)
  pub whole : buffer_with out n (decode (drop i s)) ≡ buffer_with old 0 (decode s)

pub record Written (s old buffer : List ℕ) (from to n : ℕ) : Type 0 where
  pub far : from ≤ to
  pub within : to ≤ length s
  pub same : length buffer ≡ length old
  pub room : n ≤ length old
  pub fits : FitsAt n (decode (drop to s)) (length old)
  pub whole : buffer_with buffer n (decode (drop to s)) ≡ buffer_with old 0 (decode s)

-- behind white space the same is still to be written
module _ {s old out : List ℕ} {i n : ℕ} (t : Storing s old out i n) where
  pub fits-still : {from : ℕ} → Skipped s i from → FitsAt n (decode (drop from s)) (length old)
  fits-still white = subst (λ (r : Result ℕ (List ℕ)). FitsAt n r (length old)) (white-skipped _ _ _ white) t.fits

  pub written : {from to : ℕ} {buffer : List ℕ} → Skipped s i from → LettersTo s from to → length buffer ≡ length out
      → buffer ≡ sets out n (fours_bytes s from ((to - from) / 4)) → Written s old buffer from to (n + (to - from) / 4 * 3)
  written {from} {to} {buffer} white run same stored =
      let far = run.far in let f = fours-fits run n _ (fits-still white) in
      record {
        far = omega arith;
        within = run.within;
        same = same ∙ t.same;
        room = f.0;
        fits = f.1;
        whole = fours-buffer run n (length old) out buffer _ (fits-still white) stored (ap (buffer_with out n) (sym (white-skipped _ _ _ white)) ∙ t.whole);
      }

-- there is room for one four more
pub stored-room : (s out : List ℕ) (from n i o m : ℕ) (buffer : List ℕ) → Stored s out from n i o buffer → FitsAt n (decode (drop from s)) m
    → i + 4 ≤ length s → FourLetters s i → o + 3 ≤ m
stored-room s out from n i o m buffer t fits h f =
    let l = fours-more s from i t.letters h f in
    let room = (fours-fits l n m fits).0 in
    let p = t.place in let far = t.letters.far in omega arith

module _ {s : List ℕ} {i : ℕ} {f : Four} (g : Gave s i f) (n : ℕ) where
  pub gave-size : (whole : Result ℕ ℕ) → whole ≡ decoded_size n (decode (drop i s)) → whole ≡ decoded_size (n + f.count) (decode (drop f.next s))
  gave-size = size-turn n f.count (take f.count f.bytes) _ _ g.rest g.long

  pub gave_fits : (m : ℕ) → FitsAt n (decode (drop i s)) m → (n + f.count ≤ m) × FitsAt (n + f.count) (decode (drop f.next s)) m
  gave_fits = fits-turn n f.count (take f.count f.bytes) _ _ g.rest g.long

  pub gave-buffer : (m : ℕ) (out new whole : List ℕ) → FitsAt n (decode (drop i s)) m → new ≡ sets out n (take f.count f.bytes)
      → buffer_with out n (decode (drop i s)) ≡ whole → buffer_with new (n + f.count) (decode (drop f.next s)) ≡ whole
  gave-buffer = buffer-turn n f.count (take f.count f.bytes) _ _ g.rest g.long

-- its bytes, stored from n on up to `next`
pub record More (s : List ℕ) (f : Four) (old new : List ℕ) (n next : ℕ) (whole : List ℕ) : Type 0 where
  pub room : next ≤ length old
  pub same : length new ≡ length old
  pub fits : FitsAt next (decode (drop f.next s)) (length old)
  pub whole-is : buffer_with new next (decode (drop f.next s)) ≡ whole

pub more : {s : List ℕ} {i : ℕ} {f : Four} (g : Gave s i f) {old buffer new : List ℕ} {n next : ℕ} {whole : List ℕ} → length buffer ≡ length old
    → FitsAt n (decode (drop i s)) (length old) → buffer_with buffer n (decode (drop i s)) ≡ whole → Wrote buffer n (take f.count f.bytes) new next
    → More s f old new n next whole
more {s} {i} {f} g {old} {buffer} {new} {n} {next} {whole} same fits b w =
    let e : next ≡ n + f.count = w.next-is ∙ ap (◌+◌ n) g.long in let h = gave_fits g n (length old) fits in
    record {
      room = let q = h.0 in omega arith;
      same = wrote-long w ∙ same;
      fits = subst (λ (m : ℕ). FitsAt m (decode (drop f.next s)) (length old)) (sym e) h.1;
      whole-is = ap (λ (m : ℕ). buffer_with new m (decode (drop f.next s))) e ∙ gave-buffer g n (length old) buffer new whole fits w.now-is b;
    }

-- ---- where nothing follows

pub size-end : (n : ℕ) (r : Result ℕ (List ℕ)) → r ≡ good [] → decoded_size n r ≡ good n
unfolding decoded_size
size-end n r e = ap (decoded_size n) e ∙ ap good (add-zero n)

pub buffer-end : (out : List ℕ) (n : ℕ) (r : Result ℕ (List ℕ)) → r ≡ good [] → buffer_with out n r ≡ out
unfolding buffer_with
buffer-end out n r e = ap (buffer_with out n) e

-- a text that is refused has no bytes that fit
pub unfit : (s : List ℕ) (i : ℕ) (r : Option Four) (n m : ℕ) → FourIs s i r → r ≡ None → FitsAt n (decode (drop i s)) m → ⊥
unfolding FitsAt
unfit s i r n m f e h = subst (λ (q : Result ℕ (List ℕ)). FitsAt n q m) (refused s i r f e) h

no_bytes : (n m k : ℕ) → FitsAt n (bad k) m → ⊥
unfolding FitsAt
no_bytes n m k f = f

-- and one that has bytes has no character from 128 on
pub fits_low : (s : List ℕ) (n m : ℕ) → FitsAt n (decode s) m → Low s
fits_low s n m = go (decode s) refl
  where
    go : (r : Result ℕ (List ℕ)) → decode s ≡ r → FitsAt n r m → Low s
    go (good b) e f = decoded-low s b e
    go (bad k) e f = absurd (no_bytes n m k f)
