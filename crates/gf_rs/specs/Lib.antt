pub mod Field
pub mod Codewords
pub mod Polynomials
pub mod Answers
