-- A call of the face for base64 is a step of base64, and the numbers of `sailmortar_declare` are those of `declare`: what the grammar says of these is
-- carried along. All over plain lists.
use Prim.Native.Nat.{◌≤◌, suc, zero, ℕ}
use native.Mathlib.Omega.{arith}
use mathlib.Core.List.{List, [], ◌∷◌}
use mathlib.Core.Path.{◌∙◌, ◌≡◌, ap, ap₂, refl, subst⁻¹, sym}
use lib.ListN.{get_or, length, take}
use Rattle.base64_rules.proofs.Laws.{Encodes, acceptance, decode-accepted, decode-answers, decode-encode, encode-0, encode-17, encode-6, encode-accepted, encode-call, length-encode, refusal}
use Rattle.base64_rules.specs.Base64.{decode, decode_call, encode, encode_call}
use Rattle.demands.specs.Demands.{output}
use Rattle.fields.proofs.Refusals.{AtPlace, declare-fails}
use Rattle.fields.specs.Fields.{declare}
use Rattle.grammar.proofs.Base64Read.{base64-is, decodes-exactly, undecoded-exactly, writes-exactly}
use Rattle.grammar.proofs.ColumnsRead.{declares-is, declares-read}
use Rattle.grammar.proofs.DeclarationsRefused.{not-declared-exactly, not-declared-read}
use Rattle.grammar.proofs.Exactly.{declares-one}
use Rattle.grammar.specs.Declarations.{Declares}
use Rattle.grammar.specs.Exact.{InBase64}
use Rattle.promises.proofs.Laws.{Faces, bytes-within, call-is, output-is}
use Rattle.step_promises.specs.Steps.{DeclaresExactly, DecodedOrRefused, DecodesExactly, EncodedAndDecoded, EncodedOrRefused, all-declared}
use Rattle.step_promises.specs.Steps.{all-decoded, all-encoded, bytes-too-long, no-room-for-letters, not-declared, not-decoded}
use Rattle.promises.specs.Promises.{call_of}
use Rattle.sailmortar.specs.Face.{declare_face, declared_numbers, decode_face, encode_face}
use Rattle.table.specs.All.{AreBytes}
use Rattle.table.proofs.Laws.{bad-good}
use Rattle.table.specs.Outcome.{Call, Refusal, accepted, answer_of, at, buffer_of, ending, most_input, refused, written}
use Rattle.table.specs.Result.{Fails, Result, bad, fails, good}
use Rattle.table.specs.declared.Column.{Column}

-- ---- base64

-- accepted or refused, by the number of the answer
step-ends : (input out : List ℕ) → DecodedOrRefused input out (decode_call input out)
step-ends input out = go (decode_call input out).answer.number refl
  where
    go : (n : ℕ) → (decode_call input out).answer.number ≡ n → DecodedOrRefused input out (decode_call input out)
    go zero z =
        let g : InBase64 input (length out) = (decodes-exactly input out).0 z in
        subst⁻¹ (DecodedOrRefused input out) ((writes-exactly input out g.bytes).0 (g.sized, g.spelled, g.fits)) (all-decoded g.spelled g.fits)
    go (suc n) z =
        let e : decode_call input out ≡ ending (refused (at 0 (suc n)) 0 []) out =
        (decode-answers input out).as-refusal (λ q. absurd (omega (arith, q, z))) ∙ ap (λ (m : ℕ). refusal m out) z ∙ unfold refusal ending answer_of buffer_of written at in refl in
        subst⁻¹ (DecodedOrRefused input out) e (not-decoded ((undecoded-exactly input out (suc n)).1 (e, omega arith)))

step-exactly : (input out : List ℕ) → DecodesExactly input out (decode_call input out)
step-exactly input out = record { ended = step-ends input out; exactly = writes-exactly input out; refused-exactly = undecoded-exactly input out }

module _ (input out : List ℕ) {numbers exit : List ℕ} (h : Faces (decode_face input out) numbers exit) where
  is-decode : call_of numbers exit ≡ decode_call input out
  unfolding decode_face
  is-decode = call-is (decode_call input out) h

  pub decodes : DecodesExactly input out (call_of numbers exit)
  decodes = subst⁻¹ (DecodesExactly input out) is-decode (step-exactly input out)

-- by the ways that an encoding step ends
encoded-or : {input out : List ℕ} (c : Call) → Encodes input out c → AreBytes input → EncodedOrRefused input out c
unfolding refusal acceptance ending answer_of buffer_of written at most_input
encoded-or c (encode-6 h) a = bytes-too-long h
encoded-or {input} c (encode-17 h k) a = no-room-for-letters h (omega (arith, k, length-encode input))
encoded-or {input} c (encode-0 h k) a = all-encoded (base64-is (encode input) input (decode-encode input a)) (length-encode input) k

module _ (input text : List ℕ) {numbers exit : List ℕ} (h : Faces (encode_face input text) numbers exit) where
  is-encode : call_of numbers exit ≡ encode_call input text
  unfolding encode_face
  is-encode = call-is (encode_call input text) h

  pub encodes : AreBytes input → EncodedOrRefused input text (call_of numbers exit)
  encodes a = subst⁻¹ (EncodedOrRefused input text) is-encode (encoded-or (encode_call input text) (encode-call input text) a)

  -- the part that was written is a part of the buffer
  pub encoded-within : get_or numbers 4 0 ≤ length exit
  unfolding encode_face encode_call
  encoded-within = bytes-within _ text numbers exit h

  pub comes_back : AreBytes input → (bytes : List ℕ) {others left : List ℕ} → Faces (decode_face (take (get_or numbers 4 0) exit) bytes) others left
      → EncodedAndDecoded input text bytes (call_of numbers exit) (call_of others left)
  unfolding output call_of most_input acceptance ending answer_of buffer_of written
  comes_back a bytes {others} {left} k size room fits =
      let long = length-encode input in
      let part : List ℕ = take (get_or numbers 4 0) exit in
      let there : call_of numbers exit ≡ ending (accepted 0 (encode input)) text =
      is-encode ∙ encode-accepted input text (omega (arith, size)) (omega (arith, long, room)) in
      let same : part ≡ encode input = output-is 0 (encode input) text there in
      let back : call_of others left ≡ ending (accepted 0 input) bytes =
      is-decode part bytes k ∙ ap (λ (t : List ℕ). decode_call t bytes) same
      ∙ decode-accepted (encode input) bytes input (omega (arith, long, size)) (decode-encode input a) fits in
      record {
        encoded = ap (λ (c : Call). c.answer.number) there;
        spelled = base64-is part input (ap decode same ∙ decode-encode input a);
        decoded = ap (λ (c : Call). c.answer.number) back;
        same = output-is 0 input bytes back;
      }

-- ---- declarations

-- by what the text is read as
read-exactly : (decls : List ℕ) (r : Result Refusal (List Column)) → declare decls ≡ r → Fails AtPlace r → DeclaresExactly decls (declared_numbers r)
unfolding declared_numbers at
read-exactly decls (good cs) e f =
    let d : Declares decls cs = declares-is decls cs e in
    record {
      ended = all-declared d;
      exactly = (λ _. (cs, d), λ _. refl);
      columns = λ ds k. ap (λ (x : List Column). 0 ∷ 0 ∷ 0 ∷ length x ∷ 0 ∷ []) (declares-one decls cs ds d k);
      refused-exactly = λ n place. (
        (λ k. absurd (bad-good (sym (not-declared-read k) ∙ e))),
        (λ q. let none : length cs ≡ 0 = ap (λ (x : List ℕ). get_or x 3 0) q in absurd (omega (arith, none, d.some))),
      );
    }
read-exactly decls (bad e) q (fails h) =
    record {
      ended = not-declared ((not-declared-exactly decls e.number e.column).1 q) h.0.0 (omega (arith, h.0.1));
      exactly = (λ z. absurd (omega (arith, z, h.0.0)), λ p. absurd (bad-good (sym q ∙ declares-read p.1)));
      columns = λ cs d. absurd (bad-good (sym q ∙ declares-read d));
      refused-exactly = λ n place. (
        (λ k. let same : e ≡ record { number = n; column = place } = cc (sym q ∙ not-declared-read k) in ap (λ (x : Refusal). x.number ∷ 0 ∷ x.column ∷ 0 ∷ 0 ∷ []) same),
        (λ z.
            let m : e.number ≡ n = ap (λ (x : List ℕ). get_or x 0 0) z in
            let k : e.column ≡ place = ap (λ (x : List ℕ). get_or x 2 0) z in
            (not-declared-exactly decls n place).1 (q ∙ ap₂ (λ (x y : ℕ). bad (at y x)) m k)),
      );
    }

pub declares : (decls : List ℕ) {numbers : List ℕ} → numbers ≡ declare_face decls → DeclaresExactly decls numbers
unfolding declare_face
declares decls e = subst⁻¹ (DeclaresExactly decls) e (read-exactly decls (declare decls) refl (declare-fails decls))
