pub mod PageLaws
pub mod Lines
