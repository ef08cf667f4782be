-- As many nodes as the size says, as `descent` proves it.
-- Assumes nothing.
pub use Rattle.descent.proofs.Scratch.{nodes-length}
