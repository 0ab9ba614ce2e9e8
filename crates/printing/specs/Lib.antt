-- What bytes put at an offset are is inside.
pub mod internal
