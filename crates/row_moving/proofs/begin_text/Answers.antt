-- row_moving::begin_text: four bytes of the number of `<TR>` are these bytes.
use Rattle.std.specs.Prelude.{Ok}
use Prim.Native.Nat.{◌+◌, ℕ}
use mathlib.Core.Path.{◌≡◌, subst, sym}
use lib.ListN.{drop, take}
use Rattle.number.specs.Number.{of_digits}
use Rattle.row_reading.specs.Clauses.{Begins}
use Rattle.table.specs.declared.Rows.TheVariants.{TableData}
use native.Mathlib.Omega.{arith}
use Rattle.flags.proofs.FlagLaws.{are-bytes}
use Rattle.row_moving.proofs.Beginning.{begins-bare, begins-line}
use Rattle.row_moving.proofs.begin_text.Goals as goal
use Rattle.row_moving.proofs.begin_text.Goals.{else-s-at-eq10, then-s-at-eq10}

pub four_bytes-requires : goal.four_bytes-requires
four_bytes-requires c =
    elim c.if-s-at-eq10.branch [ then-s-at-eq10 w ↦ omega arith | else-s-at-eq10 w ↦ omega arith ]

pub overflow_add-result : goal.overflow_add-result
overflow_add-result c =
    elim c.if-s-at-eq10.branch [ then-s-at-eq10 w ↦ omega arith | else-s-at-eq10 w ↦ omega arith ]

pub returns-then-four_bytes-eq1012159038 : goal.returns-then-four_bytes-eq1012159038
returns-then-four_bytes-eq1012159038 c =
    let s = c.args.s.now in
    let f = c.four_bytes in
    let b = are-bytes s (λ i. omega (arith, c.shared_slice_known-2-1.given i)) in
    let k = c.if-four_bytes-eq1012159038.true in
    let Starts : ℕ → Type 0 = λ (i : ℕ). f.result ≡ of_digits 256 0 (take 4 (drop i s)) → Begins TableData c.args.count s c.args.at (Ok (record { flags = 0; cells = i + 4 })) in
    elim c.if-s-at-eq10.branch [
      | then-s-at-eq10 w ↦ subst Starts (sym w.start-is) (begins-line c.args.count s c.args.at b c.requires.0 f.result k w.if-s-at-eq10.true) f.ensures
      | else-s-at-eq10 w ↦ subst Starts (sym w.start-is) (begins-bare c.args.count s c.args.at b c.requires.0 f.result k) f.ensures
    ]
