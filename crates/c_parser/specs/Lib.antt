pub mod Tokens
pub mod Walk
pub mod Expr
pub mod Stmt
pub mod Unit
pub mod Faults
pub mod Laws
pub mod private
