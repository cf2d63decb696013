pub mod Members
pub mod Givings
pub mod Fronts
pub mod Fewer
