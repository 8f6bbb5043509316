mod Composed
mod Ended
mod Told
