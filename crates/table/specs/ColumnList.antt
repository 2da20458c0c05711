-- A column list by value: "a struct holding an array of 64 column records and a count".
use Rattle.std.specs.Prelude.{◌-◌, suc, zero, ℕ, List, [], ◌++◌, ◌∷◌, get_or, length, replicate, None}
use Rattle.table.specs.Cell.{column_of}
use Rattle.table.specs.declared.Column.{Column}
use Rattle.table.specs.declared.Columns.{Columns}
use Rattle.table.specs.declared.Kind.TheVariants.{Boolean}
use Rattle.table.specs.declared.Len.TheVariants.{Fixed}

-- what stands in a column list where no column was declared
abbrev pub no_column : Column
no_column = column_of Boolean (Fixed 0) None

-- the columns of a list from place k on, n of them
unfoldable pub columns_from : List Column → ℕ → ℕ → List Column
columns_from l k zero = []
columns_from l k (suc n) = get_or l k no_column ∷ columns_from l (suc k) n

-- the columns that are declared
unfoldable pub listed : Columns → List Column
listed cols = columns_from cols.list 0 cols.count

-- the column list that holds these columns and nothing else
abbrev pub holding : List Column → Columns
holding cs = record { list = cs ++ replicate (64 - length cs) no_column; count = length cs }
