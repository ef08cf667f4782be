pub mod Bits
pub mod At
pub mod Doubling
pub mod Operators
pub mod Lengths
