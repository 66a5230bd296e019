pub mod NumberFacts
pub mod FreeFacts
pub mod PastFacts
pub mod PlaceFacts
