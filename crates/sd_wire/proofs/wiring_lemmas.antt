pub mod Joined
pub mod Owned
pub mod ItemLists
pub mod Listed
pub mod StateItems
