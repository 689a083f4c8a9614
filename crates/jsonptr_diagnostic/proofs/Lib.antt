pub mod RenderingLemmas
pub mod RenderingLaws
