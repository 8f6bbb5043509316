pub mod Failing
pub mod Never
pub mod Said
pub mod Shown
pub mod Parted
