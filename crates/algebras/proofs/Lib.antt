pub mod Prefixes
pub mod Answering
pub mod LastChanges
pub mod SumChanges
pub mod EveryKind
