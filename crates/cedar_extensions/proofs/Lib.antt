mod Agreeing
mod Checked
mod Collecting
mod Counted
mod Found
mod Texts
