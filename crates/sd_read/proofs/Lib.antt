pub mod decided_lemmas
pub mod readable_lemmas
pub mod told_lemmas
pub mod blocks_lemmas
