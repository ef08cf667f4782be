-- What of a text is judged besides its grammar, as `descent` and `typed` have it.
-- Assumes nothing.
pub use Rattle.descent.specs.Words.{most_bytes, most_brackets, WordAt, UnknownAt, FirstUnknown, how_many, DeepAt, Deep}
