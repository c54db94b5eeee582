-- 01, The wheel step: the arc of a constant twist.
pub mod Arc
