mod Examples
pub mod Fronts
pub mod TableFacts
pub mod Comments
pub mod Faults
pub mod Texts
pub mod Scans
pub mod Readings
pub mod Parts
pub mod CommentLaws
pub mod TextLaws
pub mod MarkLaws
pub mod Widths
pub mod Totals
pub mod WordLaws
