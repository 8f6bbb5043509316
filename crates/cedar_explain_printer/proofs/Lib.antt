mod Calls
mod Listing
mod Reaching
