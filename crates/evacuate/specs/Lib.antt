pub mod Found
pub mod Tale
pub mod Causes
pub mod Evacuating
pub mod UnderWay
pub mod EvacuationInside
pub mod Examples
