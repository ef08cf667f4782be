-- The words that no name may be, as `spelling` lists them.
-- Assumes nothing.
unfoldable pub use Rattle.spelling.specs.Reserved.{reserved}
