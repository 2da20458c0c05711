-- What the code asks of columns: how many there are, and how many elements each bounds.
use Rattle.std.specs.Prelude.{◌<◌, ◌≤◌, List, length}
use Rattle.table.specs.All.{All}
use Rattle.table.specs.Cell.{bound, most_elements}
use Rattle.table.specs.declared.Column.{Column}

-- a length of 1 to 4,096 elements
abbrev pub Bounded : Column → Type 0
Bounded c = (1 ≤ bound c.len) × (bound c.len ≤ most_elements)

-- 1 to 64 columns, each within its bounds
pub record Within (cs : List Column) : Type 0 where
  pub some : 0 < length cs
  pub few : length cs ≤ 64
  pub each : All Bounded cs
