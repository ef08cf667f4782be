-- What a reader must believe of the search: Table, Search and Promises; its refusals are in checks/specs, the numbers and values of its answers in
-- slices/specs. `Inner` is only for private functions: no public contract cites it.
pub mod Table
pub mod Search
pub mod Promises
pub mod Inner
