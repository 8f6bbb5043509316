mod Laid
mod Parts
mod Results
mod Noted
mod Standing
mod Checked
mod Widened
mod Placed
