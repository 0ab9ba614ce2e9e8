-- The printed page, and its order said without computing it.
pub mod Pages
pub mod Order
pub mod internal
