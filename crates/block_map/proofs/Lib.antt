pub mod Words
pub mod Maps
pub mod States
