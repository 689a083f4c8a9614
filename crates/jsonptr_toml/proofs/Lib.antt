mod ChangeLemmas
mod DepthLemmas
