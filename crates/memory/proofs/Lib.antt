mod ByteListLemmas
mod SameLemmas
