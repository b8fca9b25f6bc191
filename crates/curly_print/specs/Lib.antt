pub mod Printed
pub mod Printing
pub mod Length
pub mod Inherited
pub mod Inheriting
pub mod Own
