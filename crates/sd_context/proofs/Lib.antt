pub mod blocks_lemmas
