pub mod graphs_lemmas
