-- What a reader must believe of the loop of the search: Standing (state and room stand at a cut of the walk) and Turns (the contract).
-- `Costs` is what Standing bounds the candidates by; `Inner` is only for private functions: no public contract cites it.
pub mod Costs
pub mod Standing
pub mod Turns
pub mod Inner
