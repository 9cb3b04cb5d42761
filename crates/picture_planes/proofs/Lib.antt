pub mod Codes
pub mod RowByRow
