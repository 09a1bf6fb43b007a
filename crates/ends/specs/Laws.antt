pub mod EndKept
