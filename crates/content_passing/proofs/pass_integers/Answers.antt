-- `content_passing::pass_integers` meets its contract: the bytes of integers are put as they stand.
use Prim.Native.Nat.{◌*◌, ℕ}
use native.Mathlib.Omega.{arith}
use mathlib.Core.Path.{◌≡◌, ap}
use Rattle.content_passing.proofs.Wholes.{whole-moved}
use Rattle.eights.proofs.Fronts.{are-bytes}
use Rattle.number.specs.Clauses.{is_signed, size, width_of}
use Rattle.table.specs.All.{AreBytes}
use Rattle.content_passing.proofs.pass_integers.Goals as goal

pub overflow_mul-bytes : goal.overflow_mul-bytes
overflow_mul-bytes c =
    let count_of : let a = c.args in a.n * c.integer_bytes.result ≡ a.n * size a.integer = let a = c.args in ap (λ (w : ℕ). a.n * w) c.integer_bytes.ensures.0 in
    record { fits = omega (arith, count_of) }

pub copy-end-requires : goal.copy-end-requires
copy-end-requires c =
    let count_of : let a = c.args in a.n * c.integer_bytes.result ≡ a.n * size a.integer = let a = c.args in ap (λ (w : ℕ). a.n * w) c.integer_bytes.ensures.0 in
    (omega (arith, count_of), omega (arith, count_of))

pub overflow_add-result : goal.overflow_add-result
overflow_add-result c =
    let count_of : let a = c.args in a.n * c.integer_bytes.result ≡ a.n * size a.integer = let a = c.args in ap (λ (w : ℕ). a.n * w) c.integer_bytes.ensures.0 in
    record { fits = omega (arith, count_of) }

pub returns : goal.returns
returns c =
    let count_of : let a = c.args in a.n * c.integer_bytes.result ≡ a.n * size a.integer = let a = c.args in ap (λ (w : ℕ). a.n * w) c.integer_bytes.ensures.0 in
    let a = c.args in
    let bytes : AreBytes a.s.now = are-bytes a.s.now (λ i. omega (arith, c.shared_slice_known-1.given i)) in
    whole-moved (is_signed a.integer) (width_of a.integer) a.n _ a.s.now a.row.now _ a.at a.o _ bytes count_of (omega (arith, count_of))
    c.copy-end.ensures
