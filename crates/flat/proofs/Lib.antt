pub mod Optional
pub mod Parts
pub mod PathLaws
pub mod TimesLaws
pub mod AreaLaws
pub mod EntryLaws
pub mod RangeLaws
pub mod Laws
