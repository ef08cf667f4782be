-- What a reader must believe of the way onward from a state: Onward (the states that are answered, the sizes passed over, a turn).
pub mod Onward
