-- Three numbers of f64.
pub mod Vector
