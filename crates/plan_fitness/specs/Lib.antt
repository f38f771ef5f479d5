pub mod Fitness
pub mod Written
