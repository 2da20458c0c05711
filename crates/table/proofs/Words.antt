-- The words of a text: white space before a word plays no part, and a white byte behind a word cuts it off. All by induction on the word.
use mathlib.Core.Bool.{Bool, cond, false, true}
use mathlib.Core.List.{List, [], ◌++◌, ◌∷◌}
use mathlib.Core.Path.{◌≡◌, refl}
use Prim.Native.Nat.{ℕ}
use Rattle.table.proofs.Laws.{IsWord, NoWhite, all_append, not-empty, pieces-word}
use Rattle.table.specs.Bytes.{attach, is_white, not_empty, pieces, skip_white, words}

pub words-none : words [] ≡ []
unfolding words pieces not_empty
words-none = refl

pub words-white : (b : ℕ) (s : List ℕ) → is_white b ≡ true → words (b ∷ s) ≡ words s
unfolding words pieces not_empty
words-white b s h = rw h

pub words-skip : (s : List ℕ) → words (skip_white s) ≡ words s
unfolding skip_white
words-skip [] = refl
words-skip (b ∷ s) = go (is_white b) refl (words-skip s)
  where
    go : (t : Bool) → is_white b ≡ t → words (skip_white s) ≡ words s → words (cond t (skip_white s) (b ∷ s)) ≡ words (b ∷ s)
    go true e h = rw (words-white b s e) h
    go false e h = refl

-- ---- a word at the front, cut off by a white byte

pub pieces-cut : (v : List ℕ) (b : ℕ) (s : List ℕ) → NoWhite v → is_white b ≡ true → pieces (v ++ (b ∷ s)) ≡ v ∷ pieces s
unfolding pieces attach
pieces-cut [] b s a h = rw h
pieces-cut (c ∷ v) b s a h = rw (a.0, pieces-cut v b s a.1 h)

not-empty-first : (v : List ℕ) (ws : List (List ℕ)) → not_empty (v ∷ ws) ≡ not_empty (v ∷ []) ++ not_empty ws
unfolding not_empty
not-empty-first [] ws = refl
not-empty-first (b ∷ v) ws = refl

-- the word, if it is not empty
pub words-cut : (v : List ℕ) (b : ℕ) (s : List ℕ) → NoWhite v → is_white b ≡ true → words (v ++ (b ∷ s)) ≡ not_empty (v ∷ []) ++ words s
unfolding words
words-cut v b s a h = rw (pieces-cut v b s a h) (not-empty-first v (pieces s))

pub word_cut : (v : List ℕ) (b : ℕ) (s : List ℕ) → IsWord v → is_white b ≡ true → words (v ++ (b ∷ s)) ≡ v ∷ words s
unfolding words
word_cut v b s i h = rw (pieces-cut v b s i.1 h) (not-empty v (pieces s) i.0)

-- ---- a word to the end

pub words_last : (v : List ℕ) → NoWhite v → words v ≡ not_empty (v ∷ [])
unfolding words
words_last v a = rw (pieces-word v a)

pub words-one : (v : List ℕ) → IsWord v → words v ≡ v ∷ []
unfolding words not_empty
words-one v i = rw (pieces-word v i.1) (not-empty v [] i.0)

pub no-white-more : (v : List ℕ) (b : ℕ) → NoWhite v → is_white b ≡ false → NoWhite (v ++ (b ∷ []))
no-white-more v b a h = all_append _ v (b ∷ []) a (h, tt)
