pub mod Firsts
pub mod Renewed
