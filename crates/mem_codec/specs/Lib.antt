pub mod Fields
pub mod RequestBytes
pub mod ResponseBytes
pub mod ConfigBytes
pub mod Reading
