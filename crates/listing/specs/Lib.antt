pub mod Listing
pub mod Reports
pub mod Texts
