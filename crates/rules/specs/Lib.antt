-- Document 01's own vocabulary: its limits, its refusal table as a decision list, answers as number and values, kinds of numbers, lists.
pub mod Limits
pub mod Kinds
pub mod Refusals
pub mod Answers
pub mod Lists
