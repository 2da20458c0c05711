-- Bytes that show nothing change nothing. Two BINARY2 streams that agree at every place that shows something (`Agree`) have the same flags and
-- counts, and contents that show the same; so both read the same row and agree behind it (`Both`).
use Prim.Native.Nat.{◌+◌, ◌-◌, ◌<◌, suc, zero, ℕ}
use native.Mathlib.Omega.{arith}
use mathlib.Core.Bool.{Bool, cond, false, true}
use mathlib.Core.List.{List, [], ◌++◌, ◌∷◌, append_assoc, map}
use mathlib.Core.Path.{◌∙◌, ◌≡◌, ap, ap₂, refl, subst, subst₂, sym}
use lib.Dec.{eqb, ltb}
use lib.IntN.{ℤ}
use lib.ListN.{get_or, length, length-append, length-replicate, replicate, take}
use lib.Seq.{take_at}
use Rattle.binary.proofs.Laws.{first_back, first-splits}
use Rattle.binary.specs.Binary.{at_most, before_nul, bit_bytes, content, content_bytes, count_in, counted, element, numbers_in, read_binary2, read_flags, shows, unpack}
use Rattle.demands.specs.Places.{cells_show, content_shows, marks_of, row_shows, shows_at, stream_shows, through_nul}
use Rattle.number.specs.Number.{of_digits}
use Rattle.rows.proofs.Laws.{read_step}
use Rattle.rows.specs.Stream.{Table, at_end, flag, flags_left, is_empty, is_set, read, read_cell, read_cells, read_end, read_row, read_start}
use Rattle.rows.specs.Sequence.{Sequence, finished, row, row_then, sequence, sequence_f}
use Rattle.table.proofs.Laws.{cond_cases, holds-bind, holds-cond, holds-eq}
use Rattle.table.specs.Cell.{AreColumns, Cell, most_elements, show}
use Rattle.table.specs.Outcome.{Refusal, at}
use Rattle.table.specs.Result.{Holds, Result, ◌>>=◌, bad, every, good, holds, refused_as, refuses}
use Rattle.table.specs.Shape.{Bits, Shape, Text, Truths, Whole, shape}
use Rattle.table.specs.declared.Column.{Column}
use Rattle.table.specs.declared.Len.{Len}
use Rattle.table.specs.declared.Len.TheVariants.{Bounded, Fixed, Free}
use Rattle.table.specs.declared.Rows.TheVariants.{Binary2}

-- the bytes of a cell's content that show something: none under a null flag, those before the first NUL of a text
unfoldable seen : Shape → Bool → List ℕ → List ℕ
seen k true p = []
seen Truths false p = p
seen Bits false p = p
seen (Whole g v) false p = p
seen Text false p = before_nul p

content-seen : (k : Shape) (n : ℕ) (p q : List ℕ) → seen k false p ≡ seen k false q → content k n p ≡ content k n q
unfolding seen content numbers_in
content-seen Truths n p q e = ap (content Truths n) e
content-seen Bits n p q e = ap (content Bits n) e
content-seen (Whole g v) n p q e = ap (content (Whole g v) n) e
content-seen Text n p q e = ap (every (element Text)) e

shows-seen : (c : Column) (f : Bool) (n : ℕ) (p q : List ℕ) → seen (shape c.kind) f p ≡ seen (shape c.kind) f q → shows c f n p ≡ shows c f n q
unfolding shows
shows-seen c true n p q e = refl
shows-seen c false n p q e = ap (λ (r : Result ℕ (List ℤ)). r >>= λ es. good (show c es)) (content-seen (shape c.kind) n p q e)

-- both give the same, and go on behind what was read
data Both {E A : Type 0} (s t : List ℕ) : Result E (A × List ℕ) → Result E (A × List ℕ) → Type 0 where
  give : {a : A} → Both s t (good (a, s)) (good (a, t))
  refuse : {e : E} → Both s t (bad e) (bad e)

both-then : {A B : Type 0} {s t : List ℕ} (f : A → B) (a b : Result Refusal (A × List ℕ)) → Both s t a b → Both s t (a >>= λ p. good (f p.0, p.1)) (b >>= λ p. good (f p.0, p.1))
both-then f a b give = give
both-then f a b refuse = refuse

cell-reads : (c : Column) (f : Bool) (n : ℕ) (count p rest : List ℕ) → ((t : List ℕ) → count_in c.len (count ++ t) ≡ good (n, t)) → length p ≡ content_bytes (shape c.kind) n
    → read_binary2 c f (count ++ (p ++ rest)) ≡ (shows c f n p >>= λ x. good (x, rest))
unfolding read_binary2
cell-reads c f n count p rest h l = rw (h (p ++ rest), first_back (content_bytes (shape c.kind) n) p rest l)

cells-both : (c : Column) (cs : List Column) (fs : List Bool) (s t u v : List ℕ) {rest left : List ℕ} (k : ℕ) (r : Result ℕ Cell)
    → read_binary2 c (flag fs) s ≡ (r >>= λ x. good (x, u)) → read_binary2 c (flag fs) t ≡ (r >>= λ x. good (x, v))
    → Both rest left (read_cells Binary2 cs (flags_left fs) (k + 1) u) (read_cells Binary2 cs (flags_left fs) (k + 1) v)
    → Both rest left (read_cells Binary2 (c ∷ cs) fs k s) (read_cells Binary2 (c ∷ cs) fs k t)
unfolding read_cells read_cell
cells-both c cs fs s t u v k (bad n) e f b = rw (e, f) refuse
cells-both c cs fs s t u v k (good x) e f b = rw (e, f) (both-then (λ (xs : List Cell). x ∷ xs) _ _ b)

row-both : (cs : List Column) (s t bits u v : List ℕ) {rest left : List ℕ} → read_flags (length cs) s ≡ good (bits, u) → read_flags (length cs) t ≡ good (bits, v)
    → Both rest left (read_cells Binary2 cs (map is_set bits) 0 u) (read_cells Binary2 cs (map is_set bits) 0 v) → Both rest left (read_row Binary2 cs s) (read_row Binary2 cs t)
unfolding read_row read_start read_end
row-both cs s t bits u v e f b = rw (e, f) (both-then (λ (xs : List Cell). xs) _ _ b)

then-both : (s t : List ℕ) (a b : Result Refusal (List Cell × List ℕ)) (f : List ℕ → Table) → f s ≡ f t → Both s t a b → row_then a f ≡ row_then b f
unfolding row_then
then-both s t a b f e (give {a = x}) = ap (row x) e
then-both s t a b f e refuse = refl

same-empty : (s t : List ℕ) → length t ≡ length s → is_empty s ≡ is_empty t
unfolding is_empty
same-empty [] [] l = refl
same-empty [] (b ∷ t) l = absurd (omega arith)
same-empty (b ∷ s) [] l = absurd (omega arith)
same-empty (b ∷ s) (c ∷ t) l = refl

stream-both : (cs : List Column) → AreColumns cs → (s t : List ℕ) {rest left : List ℕ} → length t ≡ length s → Both rest left (read_row Binary2 cs s) (read_row Binary2 cs t)
    → read Binary2 cs rest ≡ read Binary2 cs left → read Binary2 cs s ≡ read Binary2 cs t
unfolding at_end
stream-both cs i s t {rest} {left} l b e =
    read_step Binary2 cs i s
    ∙ ap₂ (λ (x : Bool) (y : Table). cond x finished y) (same-empty s t l) (then-both rest left (read_row Binary2 cs s) (read_row Binary2 cs t) (read Binary2 cs) e b)
    ∙ sym (read_step Binary2 cs i t)

-- ---- a cell's parts

-- a cell's count, where it has one
unfoldable count_part : Len → List ℕ → List ℕ
count_part (Fixed n) s = []
count_part (Bounded n) s = take 4 s
count_part Free s = take 4 s

abbrev Counts : Len → List ℕ → ℕ × List ℕ → Type 0
Counts l s p = (s ≡ count_part l s ++ p.1) × ((t : List ℕ) → count_in l (count_part l s ++ t) ≡ good (p.0, t))

counted-splits : (most : ℕ) (s : List ℕ) → Holds (λ (p : ℕ × List ℕ). (s ≡ take 4 s ++ p.1) × ((t : List ℕ) → counted most (take 4 s ++ t) ≡ good (p.0, t))) (counted most s)
unfolding counted at_most
counted-splits most s =
    holds-bind (first-splits 4 s) (λ p h.
    let e : take 4 s ≡ p.0 = ap (take 4) h.1 ∙ take_at p.0 p.1 4 h.0 in
    holds-cond (ltb most (of_digits 256 0 p.0)) (λ _. refuses)
    (λ g. holds (h.1 ∙ ap (λ (x : List ℕ). x ++ p.1) (sym e), λ t. rw (e, first_back 4 p.0 t h.0, g))))

count-splits : (l : Len) (s : List ℕ) → Holds (Counts l s) (count_in l s)
unfolding count_in count_part
count-splits (Fixed n) s = holds (refl, λ t. refl)
count-splits (Bounded n) s = counted-splits n s
count-splits Free s = counted-splits most_elements s

-- ---- from places that show something to what is read

-- two texts agree where the marks say so, and past them
abbrev Agree : List Bool → List ℕ → List ℕ → Type 0
Agree [] s t = t ≡ s
Agree (m ∷ ms) [] t = t ≡ []
Agree (m ∷ ms) (b ∷ s) [] = ⊥
Agree (true ∷ ms) (b ∷ s) (c ∷ t) = (c ≡ b) × Agree ms s t
Agree (false ∷ ms) (b ∷ s) (c ∷ t) = Agree ms s t

no_length : (t : List ℕ) → length t ≡ 0 → t ≡ []
no_length [] h = refl
no_length (c ∷ t) h = absurd (omega arith)

agree_of : (ms : List Bool) (s t : List ℕ) → length t ≡ length s → ((i : ℕ) → i < length s → get_or ms i true ≡ true → get_or t i 0 ≡ get_or s i 0) → Agree ms s t
agree_of [] [] t l h = no_length t l
agree_of [] (b ∷ s) [] l h = absurd (omega arith)
agree_of [] (b ∷ s) (c ∷ t) l h =
    let r : t ≡ s = agree_of [] s t (omega arith) (λ i k m. h (suc i) (omega arith) refl) in
    ap₂ (λ (x : ℕ) (xs : List ℕ). x ∷ xs) (h 0 (omega arith) refl) r
agree_of (m ∷ ms) [] t l h = no_length t l
agree_of (m ∷ ms) (b ∷ s) [] l h = absurd (omega arith)
agree_of (true ∷ ms) (b ∷ s) (c ∷ t) l h = (h 0 (omega arith) refl, agree_of ms s t (omega arith) (λ i k m. h (suc i) (omega arith) m))
agree_of (false ∷ ms) (b ∷ s) (c ∷ t) l h = agree_of ms s t (omega arith) (λ i k m. h (suc i) (omega arith) m)

record Cut (ms ns : List Bool) (p s t : List ℕ) : Type 0 where
  other : List ℕ
  left : List ℕ
  splits : t ≡ other ++ left
  here : Agree ms p other
  rest : Agree ns s left

cut : (ms ns : List Bool) (p s t : List ℕ) → length ms ≡ length p → Agree (ms ++ ns) (p ++ s) t → Cut ms ns p s t
cut [] ns [] s t l a = record { other = []; left = t; splits = refl; here = refl; rest = a }
cut [] ns (b ∷ p) s t l a = absurd (omega arith)
cut (m ∷ ms) ns [] s t l a = absurd (omega arith)
cut (m ∷ ms) ns (b ∷ p) s [] l a = absurd a
cut (true ∷ ms) ns (b ∷ p) s (c ∷ t) l a =
    let r : Cut ms ns p s t = cut ms ns p s t (omega arith) a.1 in
    record { other = c ∷ r.other; left = r.left; splits = ap (λ (x : List ℕ). c ∷ x) r.splits; here = (a.0, r.here); rest = r.rest }
cut (false ∷ ms) ns (b ∷ p) s (c ∷ t) l a =
    let r : Cut ms ns p s t = cut ms ns p s t (omega arith) a in
    record { other = c ∷ r.other; left = r.left; splits = ap (λ (x : List ℕ). c ∷ x) r.splits; here = r.here; rest = r.rest }

all_seen : (p q : List ℕ) → Agree (replicate (length p) true) p q → q ≡ p
all_seen [] q a = a
all_seen (b ∷ p) [] a = absurd a
all_seen (b ∷ p) (c ∷ q) a = ap₂ (λ (x : ℕ) (xs : List ℕ). x ∷ xs) a.0 (all_seen p q a.1)

agree-length : (ms : List Bool) (p q : List ℕ) → Agree ms p q → length q ≡ length p
agree-length [] p q a = ap length a
agree-length (m ∷ ms) [] q a = ap length a
agree-length (m ∷ ms) (b ∷ p) [] a = absurd a
agree-length (true ∷ ms) (b ∷ p) (c ∷ q) a = ap suc (agree-length ms p q a.1)
agree-length (false ∷ ms) (b ∷ p) (c ∷ q) a = ap suc (agree-length ms p q a)

through-seen : (p q : List ℕ) → Agree (through_nul p) p q → before_nul p ≡ before_nul q
unfolding through_nul before_nul
through-seen [] q a = rw a
through-seen (b ∷ p) [] a = absurd a
through-seen (b ∷ p) (c ∷ q) a = rw a.0 (go (eqb b 0) a.1 (through-seen p q))
  where
    go : (z : Bool) → Agree (cond z (replicate (length p) false) (through_nul p)) p q → (Agree (through_nul p) p q → before_nul p ≡ before_nul q)
        → cond z [] (b ∷ before_nul p) ≡ cond z [] (b ∷ before_nul q)
    go true a h = refl
    go false a h = ap (λ (x : List ℕ). b ∷ x) (h a)

content-agree : (k : Shape) (f : Bool) (p q : List ℕ) → Agree (content_shows k f p) p q → seen k f p ≡ seen k f q
unfolding content_shows seen
content-agree k true p q a = refl
content-agree Truths false p q a = sym (all_seen p q a)
content-agree Bits false p q a = sym (all_seen p q a)
content-agree (Whole g v) false p q a = sym (all_seen p q a)
content-agree Text false p q a = through-seen p q a

length-through : (p : List ℕ) → length (through_nul p) ≡ length p
unfolding through_nul
length-through [] = refl
length-through (b ∷ p) =
    cond_cases (λ (m : List Bool). suc (length m) ≡ suc (length p)) (eqb b 0) (replicate (length p) false) (through_nul p)
    (λ _. ap suc (length-replicate (length p) false)) (λ _. ap suc (length-through p))

length-content : (k : Shape) (f : Bool) (p : List ℕ) → length (content_shows k f p) ≡ length p
unfolding content_shows
length-content k true p = length-replicate _ _
length-content Truths false p = length-replicate _ _
length-content Bits false p = length-replicate _ _
length-content (Whole g v) false p = length-replicate _ _
length-content Text false p = length-through p

-- both read the same cells, and behind them agree where the marks say so
record CellsAgree (cs : List Column) (fs : List Bool) (s t rest : List ℕ) (ns : List Bool) : Type 0 where
  left : List ℕ
  behind : Agree ns rest left
  both : (k : ℕ) → Both rest left (read_cells Binary2 cs fs k s) (read_cells Binary2 cs fs k t)

part_length : (a s t : List ℕ) → s ≡ a ++ t → length (replicate (length s - length t) true) ≡ length a
part_length a s t e = length-replicate (length s - length t) true ∙ omega (arith, ap length e, length-append a t)

one_cell : (c : Column) (cs : List Column) (fs : List Bool) (s : List ℕ) (n : ℕ) (t p u : List ℕ) (m : List Bool) (rest : List ℕ) → Counts c.len s (n, t)
    → (t ≡ p ++ u) → length p ≡ content_bytes (shape c.kind) n
    → ((ns : List Bool) (w : List ℕ) → Agree (m ++ ns) u w → CellsAgree cs (flags_left fs) u w rest ns)
    → (ns : List Bool) (w : List ℕ) → Agree ((replicate (length s - length t) true ++ (content_shows (shape c.kind) (flag fs) p ++ m)) ++ ns) s w
    → CellsAgree (c ∷ cs) fs s w rest ns
one_cell c cs fs s n t p u m rest h g l more ns w a =
    let k : Shape = shape c.kind in
    let count : List ℕ = count_part c.len s in
    let e : s ≡ count ++ (p ++ u) = h.0 ∙ ap (λ (x : List ℕ). count ++ x) g in
    let marks : List Bool = replicate (length s - length t) true in
    let inside : List Bool = content_shows k (flag fs) p in
    let long : length marks ≡ length count = part_length count s t h.0 in
    let a' : Agree (marks ++ (inside ++ (m ++ ns))) (count ++ (p ++ u)) w
    = subst₂ (λ (x : List Bool) (y : List ℕ). Agree x y w)
    (append_assoc marks (inside ++ m) ns ∙ ap (λ (x : List Bool). marks ++ x) (append_assoc inside m ns)) e a in
    let first : Cut marks (inside ++ (m ++ ns)) count (p ++ u) w = cut marks (inside ++ (m ++ ns)) count (p ++ u) w long a' in
    let second : Cut inside (m ++ ns) p u first.left = cut inside (m ++ ns) p u first.left (length-content k (flag fs) p) first.rest in
    let third : CellsAgree cs (flags_left fs) u second.left rest ns = more ns second.left second.rest in
    let same_count : first.other ≡ count
    = all_seen count first.other (subst (λ (x : ℕ). Agree (replicate x true) count first.other) (sym (length-replicate (length s - length t) true) ∙ long) first.here) in
    let other : List ℕ = second.other in
    let e' : w ≡ count ++ (other ++ second.left) = first.splits ∙ ap₂ ◌++◌ same_count second.splits in
    let same-shown : shows c (flag fs) n other ≡ shows c (flag fs) n p = sym (shows-seen c (flag fs) n p other (content-agree k (flag fs) p other second.here)) in
    record {
      left = third.left;
      behind = third.behind;
      both = λ j. cells-both c cs fs s w u second.left j (shows c (flag fs) n p) (ap (read_binary2 c (flag fs)) e ∙ cell-reads c (flag fs) n count p u h.1 l)
          (ap (read_binary2 c (flag fs)) e' ∙ cell-reads c (flag fs) n count other second.left h.1 (agree-length inside p other second.here ∙ l)
          ∙ ap (λ (r : Result ℕ Cell). r >>= λ x. good (x, second.left)) same-shown)
          (third.both (j + 1));
    }

cells_agree : (cs : List Column) (fs : List Bool) (s : List ℕ)
    → Holds (λ (m : List Bool × List ℕ). (ns : List Bool) (w : List ℕ) → Agree (m.0 ++ ns) s w → CellsAgree cs fs s w m.1 ns) (cells_show cs fs s)
unfolding cells_show read_cells
cells_agree [] fs s = holds (λ ns w a. record { left = w; behind = a; both = λ k. give })
cells_agree (c ∷ cs) fs s =
    holds-bind (count-splits c.len s) (λ n h.
    holds-bind (first-splits (content_bytes (shape c.kind) n.0) n.1) (λ p g.
    holds-bind (cells_agree cs (flags_left fs) p.1) (λ m more.
    holds (one_cell c cs fs s n.0 n.1 p.0 p.1 m.0 m.1 h g.1 g.0 more))))

flags-split : (n : ℕ) (s : List ℕ)
    → Holds (λ (p : List ℕ × List ℕ). (flags : List ℕ) × (s ≡ flags ++ p.1) × (length flags ≡ bit_bytes n) × ((u : List ℕ) → read_flags n (flags ++ u) ≡ good (p.0, u))) (read_flags n s)
unfolding read_flags
flags-split n s =
    holds-bind (first-splits (bit_bytes n) s) (λ f h.
    holds-bind (holds-eq (unpack n f.0)) (λ bits e. holds (f.0, h.1, h.0, λ u. rw (first_back (bit_bytes n) f.0 u h.0, e))))

-- a row's marks, and those of what follows it
abbrev RowAgrees : List Column → List ℕ → List Bool × List ℕ → Type 0
RowAgrees cs s m =
    (ns : List Bool) (t : List ℕ) → ((left : List ℕ) → Agree ns m.1 left → read Binary2 cs m.1 ≡ read Binary2 cs left) → Agree (m.0 ++ ns) s t
    → read Binary2 cs s ≡ read Binary2 cs t

one-row : (cs : List Column) → AreColumns cs → (s flags bits t : List ℕ) (m : List Bool × List ℕ) → s ≡ flags ++ t → length flags ≡ bit_bytes (length cs)
    → ((u : List ℕ) → read_flags (length cs) (flags ++ u) ≡ good (bits, u))
    → ((ns : List Bool) (w : List ℕ) → Agree (m.0 ++ ns) t w → CellsAgree cs (map is_set bits) t w m.1 ns)
    → RowAgrees cs s (replicate (bit_bytes (length cs)) true ++ m.0, m.1)
one-row cs i s flags bits t m e l u more ns w behind a =
    let marks : List Bool = replicate (length flags) true in
    let a' : Agree (marks ++ (m.0 ++ ns)) (flags ++ t) w
    = subst₂ (λ (x : List Bool) (y : List ℕ). Agree x y w)
    (append_assoc (replicate (bit_bytes (length cs)) true) m.0 ns ∙ ap (λ (k : ℕ). replicate k true ++ (m.0 ++ ns)) (sym l)) e a in
    let first : Cut marks (m.0 ++ ns) flags t w = cut marks (m.0 ++ ns) flags t w (length-replicate (length flags) true) a' in
    let second : CellsAgree cs (map is_set bits) t first.left m.1 ns = more ns first.left first.rest in
    let e' : w ≡ flags ++ first.left = first.splits ∙ ap (λ (x : List ℕ). x ++ first.left) (all_seen flags first.other first.here) in
    stream-both cs i s w (agree-length ((replicate (bit_bytes (length cs)) true ++ m.0) ++ ns) s w a)
    (row-both cs s w bits t first.left (ap (read_flags (length cs)) e ∙ u t) (ap (read_flags (length cs)) e' ∙ u first.left) (second.both 0))
    (behind second.left second.behind)

row-agree : (cs : List Column) → AreColumns cs → (s : List ℕ) → Holds (RowAgrees cs s) (row_shows cs s)
unfolding row_shows
row-agree cs i s =
    holds-bind (flags-split (length cs) s) (λ f h.
    holds-bind (cells_agree cs (map is_set f.0) f.1) (λ m more. holds (one-row cs i s h.0 f.0 f.1 m h.1 h.2 h.3 more)))

abbrev rows_show : ℕ → List Column → List ℕ → Sequence (List Bool)
rows_show f cs = sequence_f f is_empty (λ s. refused_as (at 0) (row_shows cs s))

rows_agree : (f : ℕ) (cs : List Column) → AreColumns cs → (s t : List ℕ) → Agree (marks_of (rows_show f cs s)) s t → read Binary2 cs s ≡ read Binary2 cs t
unfolding sequence_f marks_of
rows_agree zero cs i s t a = ap (read Binary2 cs) (sym a)
rows_agree (suc f) cs i s t a = go (is_empty s) (row_shows cs s) (row-agree cs i s) (rows_agree f cs i) a
  where
    go : (b : Bool) (r : Result ℕ (List Bool × List ℕ)) → Holds (RowAgrees cs s) r
        → ((s t : List ℕ) → Agree (marks_of (rows_show f cs s)) s t → read Binary2 cs s ≡ read Binary2 cs t)
        → Agree (marks_of (cond b finished (row_then (refused_as (at 0) r) (rows_show f cs)))) s t → read Binary2 cs s ≡ read Binary2 cs t
    go true r h more a = ap (read Binary2 cs) (sym a)
    go false r refuses more a = unfold row_then marks_of in ap (read Binary2 cs) (sym a)
    go false r (holds {a = m} h) more a = unfold row_then marks_of in h (marks_of (rows_show f cs m.1)) t (more m.1) a

-- two BINARY2 streams that agree at every place that shows something say the same
pub unseen : (cs : List Column) (s t : List ℕ) → AreColumns cs → length t ≡ length s
    → ((i : ℕ) → i < length s → shows_at cs s i ≡ true → get_or t i 0 ≡ get_or s i 0) → read Binary2 cs t ≡ read Binary2 cs s
unfolding shows_at stream_shows sequence
unseen cs s t i l h = sym (rows_agree (suc (length s)) cs i s t (agree_of (marks_of (stream_shows cs s)) s t l h))
