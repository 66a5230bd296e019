pub mod Operators
pub mod Reader
pub mod ReadExpr
pub mod ReadStmt
pub mod ReadUnit
