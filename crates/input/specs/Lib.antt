-- What the contracts cite.
pub mod Scan
