mod Digits
mod Ordered
mod Parts
mod Signs
mod Written
