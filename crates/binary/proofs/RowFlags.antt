-- Laws of a BINARY2 row's flags: those that are written are read back; what follows them is no longer than the row; their refusals.
use Prim.Native.Nat.{◌<◌, ◌≤◌, ℕ}
use native.Mathlib.Omega.{arith}
use mathlib.Core.Bool.{Bool, false, true}
use mathlib.Core.List.{List, ◌++◌, map}
use mathlib.Core.Path.{◌∙◌, ◌≡◌, ap}
use lib.Dec.{lit<}
use lib.ListN.{length, length-map}
use Rattle.binary.proofs.Laws.{first_back, first-fails, first-is, first-less, length-pack, unpack-fails, unpack-pack}
use Rattle.binary.specs.Binary.{bit_bytes, flag_bit, pack, read_flags, unpack}
use Rattle.table.proofs.Laws.{Numbered, all_map, fails-bind, holds-any, holds-bind}
use Rattle.table.specs.All.{All, AreBytes}
use Rattle.table.specs.Result.{Fails, Holds, gives, good, holds}

pub flags-small : (flags : List Bool) → All (λ (b : ℕ). b < 2) (map flag_bit flags)
flags-small flags = all_map (λ (b : ℕ). b < 2) flag_bit small flags
  where
    small : (flag : Bool) → flag_bit flag < 2
    small true = lit< tt
    small false = lit< tt

pub flags-back : (n : ℕ) (flags : List Bool) (rest : List ℕ) → length flags ≡ n → read_flags n (pack (map flag_bit flags) ++ rest) ≡ good (map flag_bit flags, rest)
unfolding read_flags
flags-back n flags rest h =
    let long : length (map flag_bit flags) ≡ n = simp length-map h in
    rw (first_back (bit_bytes n) (pack (map flag_bit flags)) rest (length-pack _ ∙ ap bit_bytes long), rw long at (unpack-pack (map flag_bit flags) (flags-small flags)))

module _ (n : ℕ) (s : List ℕ) where
  pub flags-le : Holds (λ (p : List ℕ × List ℕ). length p.1 ≤ length s) (read_flags n s)
  unfolding read_flags
  flags-le = holds-bind (first-less (bit_bytes n) s) (λ p h. holds-bind (holds-any (unpack n p.0)) (λ bits _. holds (omega arith)))

  pub flags-are : AreBytes s → Holds (λ (p : List ℕ × List ℕ). AreBytes p.1) (read_flags n s)
  unfolding read_flags
  flags-are a = holds-bind (first-is (bit_bytes n) s a) (λ p h. holds-bind (holds-any (unpack n p.0)) (λ bits _. holds h.2))

  pub flags-fails : Fails (Numbered 8 13) (read_flags n s)
  unfolding read_flags
  flags-fails = fails-bind (first-fails (bit_bytes n) s) (λ p. fails-bind (unpack-fails n p.0) (λ bits. gives))
