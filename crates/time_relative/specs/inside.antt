-- What private functions are stated by: no public contract and no claim rests on these.
pub mod Told
