pub mod Optional
pub mod PathRecord
pub mod Times
pub mod AreaRecord
pub mod EntryRecord
pub mod RangeRecord
pub mod Laws
