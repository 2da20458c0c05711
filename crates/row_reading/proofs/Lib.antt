pub mod Ways
pub mod CellsFit
pub mod Parts
pub mod PassedRows
