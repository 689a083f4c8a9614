pub mod CommentedLemmas
