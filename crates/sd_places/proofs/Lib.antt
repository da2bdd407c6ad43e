pub mod ranks_lemmas
