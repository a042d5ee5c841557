-- Executable models of the crate's code: functions on lists of characters. It is proved that the code returns the same
-- results. No public postcondition cites a model.

pub mod TreeBuilders
