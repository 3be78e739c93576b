pub mod DifferenceSets
pub mod Entries
pub mod NoTables
pub mod Sweeps
pub mod TabledFleets
pub mod TabledTerms
pub mod Tables
