-- Lemmas that definitions and bodies need. What they say is checked: nobody has to believe it.
pub mod Ahead
pub mod Attribute
pub mod AttributeLooks
pub mod FlatAttribute
pub mod Governing
pub mod Message
pub mod NextHopFront
pub mod RouteList
pub mod LookBounds
