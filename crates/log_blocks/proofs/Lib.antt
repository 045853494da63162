mod Accepts
mod Parts
mod Reading
