pub mod Printed
pub mod Answers
