-- What a reader must believe of the sections: Numbers, and Sections (the first offending byte). `Inner` is only for private functions: no public contract cites
-- it.
pub mod Numbers
pub mod Sections
pub mod Inner
