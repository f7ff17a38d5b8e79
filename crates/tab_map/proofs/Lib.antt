pub mod TabLemmas
pub mod PlainTexts
