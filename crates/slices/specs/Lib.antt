-- What a reader must believe of the search in slices: Said, Slices, Resume and Slicing. The relation "state and room stand at a cut of the walk" is in
-- turns/specs, the row of number 14 in state/specs, the refusals before it in checks/specs. `Inner` is only for private functions: no public contract cites it.
pub mod Said
pub mod Slices
pub mod Resume
pub mod Slicing
pub mod Inner
