pub mod JournaledSpace
pub mod SpaceInside
pub mod KeptSpace
pub mod Refusals
pub mod Opening
pub mod KeptJournal
pub mod ChooseInside
