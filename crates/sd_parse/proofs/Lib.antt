pub mod grammar_lemmas
