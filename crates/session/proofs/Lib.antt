-- Laws of opening: what it gives, and its numbers.
pub mod Opening
