-- Lemmas that definitions and bodies need. What they say is checked: nobody has to believe it.
pub mod Governing
pub mod InfoLooks
pub mod InfoOnce
pub mod ShortLists
