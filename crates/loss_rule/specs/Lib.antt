pub mod Rule
pub mod InOrder
pub mod Dealing
pub mod Numbers
pub mod Inside
