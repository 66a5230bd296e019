pub mod Certificates
pub mod Comparisons
pub mod Laws
pub mod private
