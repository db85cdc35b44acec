pub mod Redirected
pub mod Parted
pub mod Piped
pub mod Lost
pub mod Whole
