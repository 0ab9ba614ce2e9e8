-- `BodyPlaces` has the literals of bodies by their places; `IndexLeads` says that an index leads to the rows that hold a literal, `WaitingFalls` what rows lose by it, `NextByCounts` that counts lead to the next
-- stage, `FoundedByCounts` when marks made by counts tell who is founded, `NotingLaws` how unfounded atoms are made false and levels noted,
-- `WaveLaws` how founded atoms are found wave by wave, `FrontLaws` how a round leads to the next stage, `RunLaws` how rounds start, go on and end.
pub mod BodyPlaces
pub mod IndexLeads
pub mod WaitingFalls
pub mod NextByCounts
pub mod FoundedByCounts
pub mod NotingLaws
pub mod WaveLaws
pub mod FrontLaws
pub mod RunLaws
