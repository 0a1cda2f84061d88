pub mod LinesBefore
