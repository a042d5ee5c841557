-- Executable models of the code: functions on lists of characters that the code is proved equal to. No public contract mentions
-- these functions.

pub mod Floats
