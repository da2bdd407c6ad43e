pub mod HoldingLemmas
pub mod InPlaceLemmas
pub mod UpwardsLemmas
pub mod InForceLemmas
pub mod LinkedLemmas
pub mod ValidLemmas
pub mod FirstLemmas
pub mod examples
