pub mod Resource
