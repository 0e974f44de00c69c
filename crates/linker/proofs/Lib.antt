pub mod Positions
pub mod Stands
pub mod Changes
pub mod Operands
pub mod Marking
pub mod Linking
pub mod ReleaseSets
pub mod Procedures
