-- What responses say, what is read of them, and what a sheet notes.
pub mod Concrete
pub mod Copies
pub mod ErrorStates
pub mod Found
pub mod Kept
pub mod Promises
pub mod Readers
pub mod Responses
pub mod Rows
pub mod Sheets
