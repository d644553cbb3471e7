pub mod ByteList
