pub mod RowAnswer
