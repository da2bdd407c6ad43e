pub mod Standing
pub mod IndexWay
pub mod IndexWalk
