-- The two calls, from what the first pass found: the answer and the buffer are those of the definition.
use Prim.Native.Nat.{◌*◌, ◌+◌, ◌/◌, ◌<◌, ◌≤◌, ℕ}
use native.Mathlib.Omega.{arith}
use mathlib.Core.List.{List}
use mathlib.Core.Path.{◌∙◌, ◌≡◌, ap, refl, sym}
use lib.ListN.{length}
use lib.Seq.{sets}
use Rattle.base64_rules.proofs.Laws.{Only, acceptance, decode-accepted, decode-only, decode-refused-17, decode-refused-7, encode-accepted, encode-refused-17, length-encode, only, refusal}
use Rattle.base64_coding.proofs.Turns.{sets-start}
use Rattle.base64_rules.specs.Base64.{decode, decode_call, encode, encode_call}
use Rattle.base64_coding.specs.Clauses.{FitsAt, acceptance_of, buffer_with, refusal_of, decoded_size}
use Rattle.table.specs.Outcome.{Call, most_input}
use Rattle.table.specs.Result.{Result, bad, good}
use Rattle.table.specs.declared.Answer.{Answer}

-- the answer and the buffer are the call's
abbrev pub Made : Call → Answer → List ℕ → Type 0
Made c a buffer = (a ≡ c.answer) × (buffer ≡ c.buffer)

-- a refusal leaves the buffer as it was
pub made-refusal : (c : Call) (n : ℕ) (out : List ℕ) (a : Answer) → c ≡ refusal n out → a ≡ refusal_of n → Made c a out
unfolding refusal
made-refusal c n out a e r = (r ∙ sym (ap (λ (d : Call). d.answer) e), sym (ap (λ (d : Call). d.buffer) e))

-- acceptance leaves the bytes in front of what stood there
made-acceptance : (c : Call) (b out new : List ℕ) (n : ℕ) (a : Answer) → c ≡ acceptance b out → length b ≡ n → length b ≤ length out
    → a ≡ acceptance_of n → new ≡ sets out 0 b → Made c a new
unfolding acceptance
made-acceptance c b out new n a e l h r s =
    (r ∙ ap acceptance_of (sym l) ∙ sym (ap (λ (d : Call). d.answer) e), s ∙ sets-start b out h ∙ sym (ap (λ (d : Call). d.buffer) e))

-- ---- what the first pass found

found-bad : (r : Result ℕ (List ℕ)) (n : ℕ) → Only 7 r → bad n ≡ decoded_size 0 r → (r ≡ bad 7) × (7 ≡ n)
unfolding decoded_size
found-bad (bad m) n only e = (refl, cc)
found-bad (good b) n o e = let z : ◌≡◌ {A = ℕ} 0 1 = cc in absurd (omega arith)

found : (r : Result ℕ (List ℕ)) (n : ℕ) → good n ≡ decoded_size 0 r → (b : List ℕ) × (r ≡ good b) × (length b ≡ n)
unfolding decoded_size
found (bad m) n e = let z : ◌≡◌ {A = ℕ} 0 1 = cc in absurd (omega arith)
found (good b) n e = let z : n ≡ 0 + length b = cc in (b, refl, omega arith)

pub fits : (r : Result ℕ (List ℕ)) (n room : ℕ) → good n ≡ decoded_size 0 r → n ≤ room → FitsAt 0 r room
unfolding FitsAt decoded_size
fits (bad m) n room e h = let z : ◌≡◌ {A = ℕ} 0 1 = cc in absurd (omega arith)
fits (good b) n room e h = let z : n ≡ 0 + length b = cc in omega arith

-- ---- decoding

module _ (input out : List ℕ) (h : length input ≤ most_input) where
  pub decode-bad : (n : ℕ) → bad n ≡ decoded_size 0 (decode input) → decode_call input out ≡ refusal n out
  decode-bad n e =
      let f = found-bad (decode input) n (decode-only input) e in decode-refused-7 input out h f.0 ∙ ap (λ (m : ℕ). refusal m out) f.1

  pub decode-long : (n : ℕ) → good n ≡ decoded_size 0 (decode input) → length out < n → decode_call input out ≡ refusal 17 out
  decode-long n e k = let f = found (decode input) n e in let l = f.2 in decode-refused-17 input out f.0 h f.1 (omega arith)

  pub decode-made : (n : ℕ) (new : List ℕ) (a : Answer) → good n ≡ decoded_size 0 (decode input) → n ≤ length out → a ≡ acceptance_of n
      → new ≡ buffer_with out 0 (decode input) → Made (decode_call input out) a new
  unfolding buffer_with
  decode-made n new a e k r s =
      let f = found (decode input) n e in let l = f.2 in
      made-acceptance _ f.0 out new n a (decode-accepted input out f.0 h f.1 (omega arith)) l (omega arith) r (s ∙ ap (buffer_with out 0) f.1)

  -- ---- encoding

  pub encode-long : length out < (length input + 2) / 3 * 4 → encode_call input out ≡ refusal 17 out
  encode-long k = let l = length-encode input in encode-refused-17 input out h (omega arith)

  pub encode-made : (new : List ℕ) (a : Answer) → let n = (length input + 2) / 3 * 4 in n ≤ length out → a ≡ acceptance_of n
      → new ≡ sets out 0 (encode input) → Made (encode_call input out) a new
  encode-made new a k r s =
      let l = length-encode input in
      made-acceptance _ (encode input) out new _ a (encode-accepted input out h (omega arith)) l (omega arith) r s
