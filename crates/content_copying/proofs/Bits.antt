-- The bits of a cell: each is written as the letter it was read from.
use Prim.Native.Nat.{◌-◌, ◌≤◌, suc, zero, ℕ}
use native.Mathlib.Omega.{arith}
use mathlib.Core.Bool.{true}
use mathlib.Core.List.{List, [], ◌∷◌, map}
use mathlib.Core.Path.{◌∙◌, ◌≡◌, ap, ap₂, refl, sym}
use lib.IntN.{pos}
use lib.ListN.{drop, length-map, take}
use Rattle.content_reading.proofs.Runs.{pass-long}
use Rattle.content_reading.specs.Passing.{PassTo}
use Rattle.integer_reading.proofs.Figures.{length-figures}
use Rattle.content_reading.proofs.Packing.{bit_is, every-bit}
use Rattle.integer_reading.proofs.Spelling.{spells-to}
use Rattle.integer_reading.specs.Figures.{figures, is_bit}
use Rattle.moving.specs.Contents.{AsText, ContentMoved, InText}
use Rattle.moving.specs.Puts.{Puts}
use Rattle.table.proofs.Laws.{all-weaken, no-white}
use Rattle.table.proofs.Words.{words-one}
use Rattle.table.specs.All.{All}
use Rattle.table.specs.Result.{good}
use Rattle.table.specs.Shape.{Bits}
use Rattle.tabledata.specs.TableData.{bit_text, bit_words, element_bytes, element_text, text_elements}

letter-back : (d c : ℕ) → d ≡ c - 48 → 48 ≤ c → c ≤ 49 → bit_text (pos d) ≡ c
unfolding bit_text
letter-back zero c e h k = omega arith
letter-back (suc zero) c e h k = omega arith
letter-back (suc (suc d)) c e h k = absurd (omega arith)

letters-back : (w : List ℕ) → All (λ (c : ℕ). is_bit c ≡ true) w → map bit_text (map pos (figures w)) ≡ w
unfolding figures
letters-back [] a = refl
letters-back (c ∷ w) a = ap₂ (λ (b : ℕ) (t : List ℕ). b ∷ t) (letter-back (c - 48) c refl (bit_is c a.0).0 (bit_is c a.0).1) (letters-back w a.1)

pub bits-moved : {s : List ℕ} {from next : ℕ} {old : List ℕ} {first : ℕ} {new : List ℕ} {e : ℕ} → PassTo is_bit s from next → (next - from ≡ 0 → ⊥)
    → Puts old first (take (next - from) (drop from s)) new e → ContentMoved (InText Bits s from) (AsText Bits) old first new (next - from) next e
unfolding text_elements bit_words element_text element_bytes
bits-moved {s} {from} {next} p some q =
    let w : List ℕ = take (next - from) (drop from s) in
    record {
      es = map pos (figures w);
      bytes = w;
      reads = record {
        word = w;
        spells = spells-to s from next p.low p.high (all-weaken _ _ w (λ c g. let i = bit_is c g in (λ f. omega arith, λ f. omega arith, λ f. omega arith)) p.passing);
        elements = ap bit_words (words-one w (omega (arith, some, pass-long p), all-weaken _ _ w (λ c g. no-white c (omega (arith, bit_is c g))) p.passing)) ∙ every-bit w p.passing;
      };
      writes = ap good (letters-back w p.passing);
      puts = q;
      count-is = sym (length-map (figures w) (λ (b : ℕ). pos b) ∙ length-figures w ∙ pass-long p);
    }
