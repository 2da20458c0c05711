-- What `shows_at` marks as showing nothing is what 01 and the user say: the content under a null flag, counts excepted, and what follows the first
-- NUL of a text, and nothing else of a cell. So the second half of demand 3 speaks of something: five bytes of a night can be anything.
use Prim.Native.Nat.{◌-◌, suc, zero, ℕ}
use native.Mathlib.Omega.{arith}
use mathlib.Core.Bool.{Bool, false, false≢true, true}
use mathlib.Core.List.{List, [], ◌++◌, ◌∷◌}
use mathlib.Core.Path.{◌∙◌, ◌≡◌, ap, refl}
use lib.ListN.{get_or, length, length-append, replicate}
use borrow.Author.Tests.{ne_eqb}
use Rattle.binary.proofs.Laws.{first_back}
use Rattle.binary.specs.Binary.{content_bytes, count_in}
use Rattle.demands.proofs.Demand3.{demand3}
use Rattle.demands.proofs.Everything.{everything}
use Rattle.demands.proofs.Night.{night-declared, night_columns, night_decls}
use Rattle.demands.specs.Demands.{SameOutput}
use Rattle.demands.specs.Places.{cells_show, content_shows, shows_at, stream_shows, through_nul}
use Rattle.rows.specs.Convert.{convert}
use Rattle.rows.specs.Sequence.{finished, row}
use Rattle.rows.specs.Stream.{flag, flags_left}
use Rattle.table.specs.All.{All}
use Rattle.table.specs.Result.{good}
use Rattle.table.specs.Shape.{Text, shape}
use Rattle.table.specs.declared.Column.{Column}
use Rattle.table.specs.declared.Rows.{Rows}
use Rattle.table.specs.declared.Rows.TheVariants.{Binary2}

-- ---- a cell: its count, its content, and the cells after it

module _ (c : Column) (cs : List Column) (f : Bool) (fs : List Bool) (n : ℕ) (count content rest : List ℕ)
    (counted : count_in c.len (count ++ (content ++ rest)) ≡ good (n, content ++ rest)) (taken : length content ≡ content_bytes (shape c.kind) n) where
  count_long : length (count ++ (content ++ rest)) - length (content ++ rest) ≡ length count
  count_long = rw (length-append count (content ++ rest)) (omega arith)

  -- its count shows, its content as `content_shows` says
  cell-marks : (marks : List Bool) (left : List ℕ) → cells_show cs fs rest ≡ good (marks, left)
      → cells_show (c ∷ cs) (f ∷ fs) (count ++ (content ++ rest)) ≡ good (replicate (length count) true ++ (content_shows (shape c.kind) f content ++ marks), left)
  unfolding cells_show flag flags_left
  cell-marks marks left e = rw (counted, first_back (content_bytes (shape c.kind) n) content rest taken, e, count_long)

-- "under a null flag, counts excepted": whatever the kind, nothing of the content shows
pub flag-hides : (c : Column) (cs : List Column) (fs : List Bool) (n : ℕ) (count content rest : List ℕ) → count_in c.len (count ++ (content ++ rest)) ≡ good (n, content ++ rest)
    → length content ≡ content_bytes (shape c.kind) n → (marks : List Bool) (left : List ℕ) → cells_show cs fs rest ≡ good (marks, left)
    → cells_show (c ∷ cs) (true ∷ fs) (count ++ (content ++ rest)) ≡ good (replicate (length count) true ++ (replicate (length content) false ++ marks), left)
unfolding content_shows
flag-hides c cs fs n count content rest q l marks left e = cell-marks c cs true fs n count content rest q l marks left e

through-nul : (a b : List ℕ) → All (λ (x : ℕ). x ≡ 0 → ⊥) a → through_nul (a ++ (0 ∷ b)) ≡ replicate (suc (length a)) true ++ replicate (length b) false
unfolding through_nul
through-nul [] b h = refl
through-nul (x ∷ a) b h = rw (ne_eqb x 0 h.0) (ap (λ (m : List Bool). true ∷ m) (through-nul a b h.1))

-- "or after the first NUL of a text": that NUL shows, and nothing behind it
pub nul-hides : (c : Column) (cs : List Column) (fs : List Bool) (n : ℕ) (count a b rest : List ℕ) → shape c.kind ≡ Text → All (λ (x : ℕ). x ≡ 0 → ⊥) a
    → count_in c.len (count ++ ((a ++ (0 ∷ b)) ++ rest)) ≡ good (n, (a ++ (0 ∷ b)) ++ rest) → length (a ++ (0 ∷ b)) ≡ content_bytes (shape c.kind) n
    → (marks : List Bool) (left : List ℕ) → cells_show cs fs rest ≡ good (marks, left)
    → cells_show (c ∷ cs) (false ∷ fs) (count ++ ((a ++ (0 ∷ b)) ++ rest))
    ≡ good (replicate (length count) true ++ ((replicate (suc (length a)) true ++ replicate (length b) false) ++ marks), left)
unfolding content_shows
nul-hides c cs fs n count a b rest t h q l marks left e =
    cell-marks c cs false fs n count (a ++ (0 ∷ b)) rest q l marks left e
    ∙ ap (λ (m : List Bool). good (replicate (length count) true ++ (m ++ marks), left)) (ap (λ k. content_shows k false (a ++ (0 ∷ b))) t ∙ through-nul a b h)

-- ---- the sample night, by computation

-- its BINARY2 with other bytes where nothing shows: behind the NUL of the text `a`, and under the two flags of the second row
abbrev pub night_of : ℕ → ℕ → ℕ → ℕ → ℕ → List ℕ
night_of p q u v w =
    0x00 ∷ 0x00 ∷ 0x07 ∷ 0x61 ∷ 0x00 ∷ p ∷ q ∷ 0x54 ∷ 0xA0 ∷ u ∷ v ∷ 0x64 ∷ 0x75 ∷ 0x73 ∷ 0x6B ∷ w ∷ []

pub night-shows : stream_shows night_columns (night_of 0x26 0x62 0xFF 0x9D 0x54)
    ≡ row (true ∷ true ∷ true ∷ true ∷ true ∷ false ∷ false ∷ true ∷ []) (row (true ∷ false ∷ false ∷ true ∷ true ∷ true ∷ true ∷ false ∷ []) finished)
unfolding everything
night-shows = refl

-- streams that are the same wherever a mark is true
abbrev SameSeen : List Bool → List ℕ → List ℕ → Type 0
SameSeen [] s t = t ≡ s
SameSeen (m ∷ ms) [] t = ⊥
SameSeen (m ∷ ms) (x ∷ s) [] = ⊥
SameSeen (true ∷ ms) (x ∷ s) (y ∷ t) = (y ≡ x) × SameSeen ms s t
SameSeen (false ∷ ms) (x ∷ s) (y ∷ t) = SameSeen ms s t

same-places : (ms : List Bool) (s t : List ℕ) → SameSeen ms s t → (i : ℕ) → get_or ms i true ≡ true → get_or t i 0 ≡ get_or s i 0
same-places [] s t h i m = ap (λ (l : List ℕ). get_or l i 0) h
same-places (b ∷ ms) [] t h i m = absurd h
same-places (b ∷ ms) (x ∷ s) [] h i m = absurd h
same-places (true ∷ ms) (x ∷ s) (y ∷ t) h zero m = h.0
same-places (true ∷ ms) (x ∷ s) (y ∷ t) h (suc i) m = same-places ms s t h.1 i m
same-places (false ∷ ms) (x ∷ s) (y ∷ t) h zero m = absurd (false≢true m)
same-places (false ∷ ms) (x ∷ s) (y ∷ t) h (suc i) m = same-places ms s t h i m

-- whatever stands in these five bytes, for every target and any two buffers of one room, the answer and what is written are the same
pub night-hides : (p q u v w : ℕ) (to : Rows) (before after : List ℕ) → length after ≡ length before
    → SameOutput (convert night_decls Binary2 to (night_of 0 0 0 0 0) before) (convert night_decls Binary2 to (night_of p q u v w) after)
night-hides p q u v w to before after room =
    demand3.unseen-bytes night_decls to night_columns (night_of 0 0 0 0 0) (night_of p q u v w) before after night-declared refl room
    (λ i h m. same-places marks (night_of 0 0 0 0 0) (night_of p q u v w)
    (refl, (refl, (refl, (refl, (refl, (refl, (refl, (refl, (refl, (refl, (refl, refl))))))))))) i (places i ∙ m))
  where
    marks : List Bool
    marks = true ∷ true ∷ true ∷ true ∷ true ∷ false ∷ false ∷ true ∷ true ∷ false ∷ false ∷ true ∷ true ∷ true ∷ true ∷ false ∷ []

    places : (i : ℕ) → get_or marks i true ≡ shows_at night_columns (night_of 0 0 0 0 0) i
    places i = unfold everything in refl
