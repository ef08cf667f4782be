-- What a reader must believe of how names are spelt: Spelling (bytes, equal bytes) and Reserved (the words that no name may be).
pub mod Spelling
pub mod Reserved
