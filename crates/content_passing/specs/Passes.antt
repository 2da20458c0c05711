-- A content that stays in binary: its elements stand in the input, and are put as binary has them.
use Rattle.std.specs.Prelude.{ℕ, List, Option}
use Rattle.moving.specs.Contents.{AsBinary, InBinary, MovesContent}
use Rattle.moving.specs.declared.Content.{Content}
use Rattle.table.specs.Shape.{Shape}

abbrev pub Passes : Shape → ℕ → List ℕ → ℕ → List ℕ → ℕ → List ℕ → Option Content → Type 0
Passes k n s at old o new r = MovesContent (InBinary k n s at) (AsBinary k) old o new r
