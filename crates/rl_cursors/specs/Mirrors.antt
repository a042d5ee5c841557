-- Executable models of private code: functions on lists of characters. The code is proved to return equal results. No
-- postcondition of a public function cites them.

pub mod SegmentAt
pub mod Closing
