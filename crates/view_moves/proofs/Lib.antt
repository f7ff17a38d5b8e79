pub mod Computing
pub mod Carets
pub mod Spans
pub mod Clipped
pub mod ByClips
pub mod Narrow
pub mod SpansByClips
