pub mod Parted
pub mod Found
pub mod Whole
