-- Laws of a line judged, and of the walk over the lines of a text.
pub mod MoveLaws
pub mod WalkLaws
