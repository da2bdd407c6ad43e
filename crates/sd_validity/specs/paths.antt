pub mod GraphAt
