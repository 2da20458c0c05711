-- Base64 is read exactly: what the grammar has decodes to those bytes, and what decodes is in the grammar.
use Prim.Native.Nat.{◌%◌, ◌*◌, ◌+◌, ◌-◌, ◌<◌, ◌≤◌, ℕ}
use native.Mathlib.Omega.{arith}
use mathlib.Core.Bool.{and-false, false, true}
use mathlib.Core.List.{List, [], ◌++◌, ◌∷◌, append-nil}
use mathlib.Core.Logic.{◌↔◌}
use mathlib.Core.Path.{◌∙◌, ◌≡◌, ap, ap₂, refl, subst, subst⁻¹, subst₂, sym}
use lib.Dec.{eqb, lit<}
use lib.ListN.{drop, length, take}
use lib.Seq.{take_at}
use borrow.Author.Tests.{eq-eqb, eqb-true, le-leb, lt-leb, ne_eqb}
use Rattle.base64_rules.proofs.Laws.{Decodes, Only, acceptance, decode-0, decode-17, decode-6, decode-7, decode-accepted, decode_call_lem, decode-only, decode-refused-17}
use Rattle.base64_rules.proofs.Laws.{decode-refused-6, decode-refused-7, exact, fine, only, refusal}
use Rattle.base64_rules.specs.Base64.{decode, decode_call, dense, fours, is_pad, last_four, one_byte, sextet, three_bytes, two_bytes}
use Rattle.grammar.proofs.Fronts.{same_good}
use Rattle.grammar.specs.Base64Text.{Base64Text, Fours, Letter, Sparse, base64-text, fours-end, fours-one, fours-then, fours-two, letter-capital}
use Rattle.grammar.specs.Base64Text.{letter-figure, letter-plus, letter-slash, letter-small, sparse-end, sparse-then, sparse-white}
use Rattle.grammar.specs.Exact.{InBase64, NotDecoded, base64-too-long, no-base64, no-room-for-bytes}
use Rattle.table.proofs.Laws.{between_is, cond_cases, holds_at, holds-bind, holds-cond, holds-weaken}
use Rattle.table.specs.Bytes.{between, is_white}
use Rattle.table.specs.Outcome.{Call, accepted, answer_of, at, buffer_of, ending, most_input, refused, written}
use Rattle.table.specs.Result.{Holds, Result, bad, good, holds, refuses}

letter-read : {b v : ℕ} → Letter b v → sextet b ≡ good v
unfolding sextet between
letter-read (letter-capital {d = d} h) = rw (le-leb 65 (65 + d) (omega arith), le-leb (65 + d) 90 (omega arith)) (ap good (omega arith))
letter-read (letter-small {d = d} h) =
    rw (lt-leb (97 + d) 90 (omega arith), and-false, le-leb 97 (97 + d) (omega arith), le-leb (97 + d) 122 (omega arith)) (ap good (omega arith))
letter-read (letter-figure {d = d} h) =
    rw (lt-leb 65 (48 + d) (omega arith), lt-leb 97 (48 + d) (omega arith), le-leb 48 (48 + d) (omega arith), le-leb (48 + d) 57 (omega arith)) (ap good (omega arith))
letter-read letter-plus = refl
letter-read letter-slash = refl

letter-is : (b : ℕ) → Holds (Letter b) (sextet b)
unfolding sextet
letter-is b =
    holds-cond (between 65 90 b) (λ h. let k = between_is 65 90 b h in let e : 65 + (b - 65) ≡ b = omega arith in
    holds (subst (λ (x : ℕ). Letter x (b - 65)) e (letter-capital {d = b - 65} (omega arith)))) (λ _.
    holds-cond (between 97 122 b) (λ h. let k = between_is 97 122 b h in let e : 97 + (b - 97) ≡ b = omega arith in let f : 26 + (b - 97) ≡ b - 71 = omega arith in
    holds (subst₂ Letter e f (letter-small {d = b - 97} (omega arith)))) (λ _.
    holds-cond (between 48 57 b) (λ h. let k = between_is 48 57 b h in let e : 48 + (b - 48) ≡ b = omega arith in let f : 52 + (b - 48) ≡ b + 4 = omega arith in
    holds (subst₂ Letter e f (letter-figure {d = b - 48} (omega arith)))) (λ _.
    holds-cond (eqb b 43) (λ h. holds (subst⁻¹ (λ (x : ℕ). Letter x 62) (eqb-true b 43 h) letter-plus)) (λ _.
    holds-cond (eqb b 47) (λ h. holds (subst⁻¹ (λ (x : ℕ). Letter x 63) (eqb-true b 47 h) letter-slash)) (λ _. refuses)))))

letter-value : {b v : ℕ} → Letter b v → v < 64
letter-value (letter-capital h) = omega arith
letter-value (letter-small h) = omega arith
letter-value (letter-figure h) = omega arith
letter-value letter-plus = lit< tt
letter-value letter-slash = lit< tt

letter-no-pad : {b v : ℕ} → Letter b v → is_pad b ≡ false
unfolding is_pad
letter-no-pad (letter-capital {d = d} h) = ne_eqb (65 + d) 61 (λ e. omega arith)
letter-no-pad (letter-small {d = d} h) = ne_eqb (97 + d) 61 (λ e. omega arith)
letter-no-pad (letter-figure {d = d} h) = ne_eqb (48 + d) 61 (λ e. omega arith)
letter-no-pad letter-plus = refl
letter-no-pad letter-slash = refl

sparse-read : {s t : List ℕ} → Sparse s t → dense s ≡ t
unfolding dense
sparse-read sparse-end = refl
sparse-read (sparse-white h r) = rw h (sparse-read r)
sparse-read (sparse-then {b = b} h r) = rw h (ap (λ (x : List ℕ). b ∷ x) (sparse-read r))

sparse-is : (s : List ℕ) → Sparse s (dense s)
unfolding dense
sparse-is [] = sparse-end
sparse-is (b ∷ s) = cond_cases (Sparse (b ∷ s)) (is_white b) (dense s) (b ∷ dense s) (λ h. sparse-white h (sparse-is s)) (λ h. sparse-then h (sparse-is s))

cons3 : {a b c x y z : ℕ} {t : List ℕ} → a ≡ x → b ≡ y → c ≡ z → ◌≡◌ {A = List ℕ} (a ∷ b ∷ c ∷ t) (x ∷ y ∷ z ∷ t)
cons3 p q r = cc

three-read : {a b c d v w x y : ℕ} (p q r : ℕ) → Letter a v → Letter b w → Letter c x → Letter d y → p < 256 → q < 256 → r < 256
    → ((v * 64 + w) * 64 + x) * 64 + y ≡ (p * 256 + q) * 256 + r → three_bytes a b c d ≡ good (p ∷ q ∷ r ∷ [])
unfolding three_bytes
three-read {v = v} {w = w} {x = x} {y = y} p q r h i j k l m n e =
    let hv = letter-value h in let hw = letter-value i in let hx = letter-value j in let hy = letter-value k in
    rw (letter-read h, letter-read i, letter-read j, letter-read k) (ap good (cons3 (omega arith) (omega arith) (omega arith)))

two-read : {a b c v w x : ℕ} (p q : ℕ) → Letter a v → Letter b w → Letter c x → p < 256 → q < 256 → (v * 64 + w) * 64 + x ≡ (p * 256 + q) * 4 → two_bytes a b c ≡ good (p ∷ q ∷ [])
unfolding two_bytes
two-read {v = v} {w = w} {x = x} p q h i j l m e =
    let hv = letter-value h in let hw = letter-value i in let hx = letter-value j in
    rw (letter-read h, letter-read i, letter-read j, eq-eqb (x % 4) 0 (omega arith)) (ap good (ap₂ (λ (x y : ℕ). x ∷ y ∷ []) (omega arith) (omega arith)))

one-read : {a b v w : ℕ} (p : ℕ) → Letter a v → Letter b w → p < 256 → v * 64 + w ≡ p * 16 → one_byte a b ≡ good (p ∷ [])
unfolding one_byte
one-read {v = v} {w = w} p h i l e =
    let hv = letter-value h in let hw = letter-value i in
    rw (letter-read h, letter-read i, eq-eqb (w % 16) 0 (omega arith)) (ap (λ (x : ℕ). good (x ∷ [])) (omega arith))

pad : is_pad 61 ≡ true
unfolding is_pad
pad = refl

fours-read : {s t : List ℕ} → Fours s t → fours s ≡ good t
unfolding fours last_four
fours-read fours-end = refl
fours-read (fours-then {p = p} {q = q} {r = r} {s = []} {t = t} h i j k l m n e f) =
    rw (letter-no-pad k, three-read p q r h i j k l m n e) (ap (λ (x : List ℕ). good (p ∷ q ∷ r ∷ x)) (same_good (fours-read f)))
fours-read (fours-then {p = p} {q = q} {r = r} {s = b ∷ s} {t = t} h i j k l m n e f) = rw (three-read p q r h i j k l m n e, fours-read f)
fours-read (fours-two {p = p} {q = q} h i j l m e) = rw (pad, letter-no-pad j) (two-read p q h i j l m e)
fours-read (fours-one {p = p} h i l e) = rw pad (one-read p h i l e)

-- four letters, and whatever follows
three-is : (a b c d : ℕ) → Holds (λ (g : List ℕ). (s t : List ℕ) → Fours s t → Fours (a ∷ b ∷ c ∷ d ∷ s) (g ++ t)) (three_bytes a b c d)
unfolding three_bytes
three-is a b c d =
    holds-bind (letter-is a) (λ v h. holds-bind (letter-is b) (λ w i. holds-bind (letter-is c) (λ x j. holds-bind (letter-is d) (λ y k.
    let hv = letter-value h in let hw = letter-value i in let hx = letter-value j in let hy = letter-value k in
    holds (λ s t f. fours-then h i j k (omega arith) (omega arith) (omega arith) (omega arith) f)))))

two_is : (a b c : ℕ) → Holds (Fours (a ∷ b ∷ c ∷ 61 ∷ [])) (two_bytes a b c)
unfolding two_bytes
two_is a b c =
    holds-bind (letter-is a) (λ v h. holds-bind (letter-is b) (λ w i. holds-bind (letter-is c) (λ x j.
    let hv = letter-value h in let hw = letter-value i in let hx = letter-value j in
    holds-cond (eqb (x % 4) 0) (λ e. let z = eqb-true (x % 4) 0 e in holds (fours-two h i j (omega arith) (omega arith) (omega arith))) (λ _. refuses))))

one-is : (a b : ℕ) → Holds (Fours (a ∷ b ∷ 61 ∷ 61 ∷ [])) (one_byte a b)
unfolding one_byte
one-is a b =
    holds-bind (letter-is a) (λ v h. holds-bind (letter-is b) (λ w i.
    let hv = letter-value h in let hw = letter-value i in
    holds-cond (eqb (w % 16) 0) (λ e. let z = eqb-true (w % 16) 0 e in holds (fours-one h i (omega arith) (omega arith))) (λ _. refuses)))

fours-are : (s : List ℕ) → Holds (Fours s) (fours s)
unfolding fours last_four is_pad
fours-are [] = holds fours-end
fours-are (a ∷ []) = refuses
fours-are (a ∷ b ∷ []) = refuses
fours-are (a ∷ b ∷ c ∷ []) = refuses
fours-are (a ∷ b ∷ c ∷ d ∷ []) =
    holds-cond (eqb d 61) (λ h. let e = eqb-true d 61 h in holds-cond (eqb c 61) (λ k. let f = eqb-true c 61 k in rw (e, f) (one-is a b)) (λ _. rw e (two_is a b c)))
    (λ _. holds-weaken (three-is a b c d) (λ g f. rw append-nil at (f [] [] fours-end)))
fours-are (a ∷ b ∷ c ∷ d ∷ e ∷ s) = holds-bind (three-is a b c d) (λ g f. holds-bind (fours-are (e ∷ s)) (λ t r. holds (f (e ∷ s) t r)))

pub base64-read : {s b : List ℕ} → Base64Text s b → decode s ≡ good b
unfolding decode
base64-read (base64-text h f) = rw (sparse-read h) (fours-read f)

pub base64-is : (s b : List ℕ) → decode s ≡ good b → Base64Text s b
unfolding decode
base64-is s b e = base64-text (sparse-is s) (holds_at (fours-are (dense s)) e)

-- BASE64: a text spells bytes exactly when it decodes to them
pub base64-exactly : (s b : List ℕ) → Base64Text s b ↔ (decode s ≡ good b)
base64-exactly s b = (base64-read, base64-is s b)

-- so what a text spells is one thing
pub base64-one : (s b c : List ℕ) → Base64Text s b → Base64Text s c → b ≡ c
base64-one s b c h k = same_good (sym (base64-read h) ∙ base64-read k)

-- ---- the decoding step

decodes-in : (input out : List ℕ) {c : Call} → Decodes input out c → c.answer.number ≡ 0 → InBase64 input (length out)
unfolding refusal acceptance most_input
decodes-in input out (decode-6 h) z = absurd (omega arith)
decodes-in input out (decode-7 h k) z = absurd (omega arith)
decodes-in input out (decode-17 b h k l) z = absurd (omega arith)
decodes-in input out (decode-0 b h k l) z = record { sized = h; bytes = b; spelled = base64-is input b ((exact input b).1 k); fits = l }

in-decodes : (input out : List ℕ) → InBase64 input (length out) → (decode_call input out).answer.number ≡ 0
unfolding acceptance most_input
in-decodes input out g = ap (λ (c : Call). c.answer.number) (decode-accepted input out g.bytes g.sized (base64-read g.spelled) g.fits)

-- a decoding step is accepted exactly when its input is in the grammar, within its size, and its bytes have room
pub decodes-exactly : (input out : List ℕ) → ((decode_call input out).answer.number ≡ 0) ↔ InBase64 input (length out)
decodes-exactly input out = (decodes-in input out (decode_call_lem input out), in-decodes input out)

-- ---- what it is refused with

not-decoded-is : (input out : List ℕ) {c : Call} → Decodes input out c → 0 < c.answer.number → NotDecoded input (length out) c.answer.number
unfolding refusal acceptance most_input
not-decoded-is input out (decode-6 h) z = base64-too-long h
not-decoded-is input out (decode-7 h none) z = no-base64 h (λ b t. none b ((exact input b).0 (base64-read t)))
not-decoded-is input out (decode-17 b h k l) z = no-room-for-bytes h (base64-is input b ((exact input b).1 k)) l
not-decoded-is input out (decode-0 b h k l) z = absurd (omega arith)

not-decoded-read : (input out : List ℕ) {n : ℕ} → NotDecoded input (length out) n → (decode_call input out ≡ ending (refused (at 0 n) 0 []) out) × (0 < n)
unfolding ending answer_of buffer_of written at refusal most_input
not-decoded-read input out (base64-too-long h) = (decode-refused-6 input out h, lit< tt)
not-decoded-read input out (no-base64 h none) = (decode-refused-7 input out h (not-base64 (decode input) (decode-only input) refl), lit< tt)
  where
    not-base64 : (r : Result ℕ (List ℕ)) → Only 7 r → decode input ≡ r → decode input ≡ bad 7
    not-base64 (good b) fine e = absurd (none b (base64-is input b e))
    not-base64 (bad n) only e = e
not-decoded-read input out (no-room-for-bytes {b = b} h t l) = (decode-refused-17 input out b h (base64-read t) l, lit< tt)

-- a decoding step is refused with a number exactly when the grammar says so; then the answer is the number and zeros, and the buffer as it was
pub undecoded-exactly : (input out : List ℕ) (n : ℕ) → NotDecoded input (length out) n ↔ ((decode_call input out ≡ ending (refused (at 0 n) 0 []) out) × (0 < n))
unfolding ending answer_of at
undecoded-exactly input out n = (not-decoded-read input out, is-refused)
  where
    is-refused : (decode_call input out ≡ ending (refused (at 0 n) 0 []) out) × (0 < n) → NotDecoded input (length out) n
    is-refused r =
        let number : (decode_call input out).answer.number ≡ n = ap (λ (c : Call). c.answer.number) r.0 in
        subst (NotDecoded input (length out)) number (not-decoded-is input out (decode_call_lem input out) (subst⁻¹ (λ (x : ℕ). 0 < x) number r.1))

-- ---- what it writes

-- the bytes that an accepted step writes are known from its answer and its buffer
bytes-written : (out b c : List ℕ) → ending (accepted 0 c) out ≡ ending (accepted 0 b) out → c ≡ b
unfolding ending answer_of buffer_of written
bytes-written out b c e =
    let n : length c ≡ length b = ap (λ (x : Call). x.answer.bytes) e in
    sym (take_at c (drop (length c) out) (length c) refl) ∙ ap₂ take n (ap (λ (x : Call). x.buffer) e) ∙ take_at b (drop (length b) out) (length b) refl

decoded-read : (input out b : List ℕ) → (length input ≤ 1073741824) × Base64Text input b × (length b ≤ length out) → decode_call input out ≡ ending (accepted 0 b) out
unfolding ending answer_of buffer_of written acceptance most_input
decoded-read input out b g = decode-accepted input out b g.0 (base64-read g.1) g.2

decoded-is : (input out b : List ℕ) → decode_call input out ≡ ending (accepted 0 b) out → (length input ≤ 1073741824) × Base64Text input b × (length b ≤ length out)
decoded-is input out b e =
    let g : InBase64 input (length out) = decodes-in input out (decode_call_lem input out) (ap (λ (c : Call). c.answer.number) e ∙ unfold ending answer_of in refl) in
    let q : g.bytes ≡ b = bytes-written out b g.bytes (sym (decoded-read input out g.bytes (g.sized, g.spelled, g.fits)) ∙ e) in
    (g.sized, subst (Base64Text input) q g.spelled, subst (λ (x : List ℕ). length x ≤ length out) q g.fits)

-- a decoding step writes these bytes, and is accepted, exactly when its input spells them, within its size, and they have room
pub writes-exactly : (input out b : List ℕ)
    → ((length input ≤ 1073741824) × Base64Text input b × (length b ≤ length out)) ↔ (decode_call input out ≡ ending (accepted 0 b) out)
writes-exactly input out b = (decoded-read input out b, decoded-is input out b)
