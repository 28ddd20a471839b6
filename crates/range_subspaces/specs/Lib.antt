pub mod Subspaces
