mod Beginnings
mod Ends
