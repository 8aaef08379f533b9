-- Lemmas that definitions and bodies need. What they say is checked: nobody has to believe it.
pub mod Codec
pub mod Fit
pub mod Front
pub mod Layout
pub mod List
pub mod Looks
pub mod Message
pub mod Messages
pub mod Name
pub mod Bool
pub mod LookBounds
pub mod Table
pub mod EnumTable
pub mod Fails
pub mod FirstTold
pub mod ShortList
pub mod Rows
