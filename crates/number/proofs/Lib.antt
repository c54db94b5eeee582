-- Laws that belong to no one function. Those of a module of src/ stand below the file of its name.
pub mod All
pub mod Below
pub mod Cases
pub mod Chunks
pub mod Filled
pub mod Tabulated
pub mod Refusals
pub mod Statements
