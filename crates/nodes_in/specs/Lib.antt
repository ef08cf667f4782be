-- What a reader must believe of nodes in an array: `Lists`, a list of nodes as plain numbers and field by field, and `Arrays`, the array that has a list's first nodes.
pub mod Lists
pub mod Arrays
