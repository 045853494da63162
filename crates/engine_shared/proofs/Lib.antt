mod Results
pub mod Sharing
