pub mod course_lemmas
pub mod cut_lemmas
pub mod history_lemmas
pub mod examples
