pub mod Codes
pub mod Meets
pub mod KindsMet
pub mod Putting
pub mod Resized
pub mod TextPutting
