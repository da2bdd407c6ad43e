pub mod items_lemmas
