-- What of a text is judged besides its grammar: how long it is; which of its names are unknown and how deep its brackets nest are `typed`'s.
-- Assumes nothing.
pub use Rattle.rules.specs.Limits.{most_bytes}
pub use Rattle.typed.specs.Words.{most_brackets, WordAt, UnknownAt, FirstUnknown, how_many, DeepAt, Deep}
