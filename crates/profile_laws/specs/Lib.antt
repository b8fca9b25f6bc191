pub mod Before
pub mod Was
