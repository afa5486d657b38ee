-- The turns of a token: its one chain, where each turn leads, and how many there are at most.
pub mod AgainLaws
pub mod FallsLaws
pub mod ForeignTurnLaws
pub mod RankLaws
pub mod RankWeightLaws
pub mod Ranks
pub mod RowEdges
pub mod SettleLaws
pub mod TurnLaws
