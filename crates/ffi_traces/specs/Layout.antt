-- The words of a trace, which stand with those of contents.
pub use Rattle.walk_words.specs.Layout.{boundary_words, kind_words, trace_length, trace_words}
