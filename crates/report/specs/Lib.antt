pub mod ReportText
pub mod Sections
pub mod FinalPages
pub mod ReportOf
