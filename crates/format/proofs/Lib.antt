-- The reader's view of a line and the printer are inverse: `Lines` and `Texts` state it. `ViewLaws` has the laws of a form's
-- view. `WordLaws` and `KindLaws` serve the code; the other files prove what `Lines` and `Texts` say.
pub mod Lines
pub mod Texts
pub mod Readings
pub mod Decimals
pub mod WordLaws
pub mod KindLaws
pub mod Pieces
pub mod Parts
pub mod Rendered
pub mod ViewLaws
pub mod Computes
