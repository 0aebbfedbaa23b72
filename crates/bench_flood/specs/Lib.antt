pub mod Rings
pub mod RingLaws
