pub mod Asm
pub mod Variables
pub mod ExprCode
pub mod StmtCode
pub mod Correct
pub mod Sound
pub mod KeptNames
pub mod private
