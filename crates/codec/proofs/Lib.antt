pub mod Readers
pub mod Fields
pub mod Records
pub mod Requests
pub mod Items
pub mod ItemLoops
pub mod Lists
pub mod PackedRows
pub mod RowsLeft
pub mod Replies
pub mod Images
pub mod DcRecords
pub mod Frames
pub mod Marks
pub mod Indexed
pub mod Ends
pub mod Results
pub mod Numbered
pub mod Asked
pub mod Cuts
mod Told
mod Sessions
mod SpelledAnswers
mod Apart
mod ApartReads
mod KeptRows
mod LongHeads
mod Starts
pub mod UndoBytes
pub mod Gaps
pub mod RowEdits
