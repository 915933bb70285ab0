pub mod Firsts
pub mod Graphs
pub mod Mentions
pub mod Reaching
