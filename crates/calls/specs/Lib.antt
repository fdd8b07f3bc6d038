-- What calls answer and leave, the laws over lists of them, and where each buffered element is written.
pub mod Calls
pub mod Laws
pub mod Carried
pub mod Filled
