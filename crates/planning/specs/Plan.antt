-- A plan: "what the cells of each column want", for those that are moved by it from BINARY or BINARY2.
use Rattle.std.specs.Prelude.{◌%◌, ◌-◌, ℕ, cond, List, ◌++◌, map, eqb, length, replicate, Option, Some, None, ℤ}
use Rattle.binary.specs.Binary.{content_bytes}
use Rattle.number.specs.declared.Integer.{Integer}
use Rattle.planning.specs.declared.Plan.{Plan}
use Rattle.planning.specs.declared.Step.{Step}
use Rattle.planning.specs.declared.Want.{Want}
use Rattle.table.specs.Shape.{Bits, Shape, Text, Truths, W1, W2, W4, W8, Whole, Width, shape}
use Rattle.table.specs.declared.Column.{Column}
use Rattle.table.specs.declared.Kind.{Kind}
use Rattle.table.specs.declared.Len.{Len}

-- one integer: "two's complement for the signed: 1, 2, 4, 8 bytes"
abbrev pub one_integer : Width → Want
one_integer W1 = Want.Integer Integer.UnsignedByte
one_integer W2 = Want.Integer Integer.Short
one_integer W4 = Want.Integer Integer.Int
one_integer W8 = Want.Integer Integer.Long

-- n elements, and no more nor fewer: a scalar integer may stand for null, integers in a row never do; bits that fill their bytes have no padding
unfoldable pub want_of : Shape → ℕ → Option Want
want_of Truths n = None
want_of Bits n = cond (eqb (n % 8) 0) (Some Want.Bytes) None
want_of Text n = None
want_of (Whole signed w) n = cond (eqb n 1) (Some (one_integer w)) (Some Want.Bytes)

-- a column with no step of its own
abbrev pub no_step : Step
no_step = record { want = None; bytes = 0; null = None }

unfoldable pub step_for : Kind → Len → Option ℤ → Step
step_for kind (Len.Fixed n) null = record { want = want_of (shape kind) n; bytes = content_bytes (shape kind) n; null = null }
step_for kind (Len.Bounded n) null = no_step
step_for kind Len.Free null = no_step

abbrev pub step_of : Column → Step
step_of c = step_for c.kind c.len c.null

-- a step for each column, and nothing behind them
abbrev pub plan_of : List Column → Plan
plan_of cs = record { list = map step_of cs ++ replicate (64 - length cs) no_step }

-- the bytes of a cell of 4,096 elements are at most these
abbrev pub most_bytes : ℕ
most_bytes = 32768
