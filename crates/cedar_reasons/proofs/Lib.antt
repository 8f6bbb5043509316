mod Kept
mod KeptNames
mod Listed
mod Named
mod Parts
mod Values
