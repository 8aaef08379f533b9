-- Lemmas that definitions and bodies need. What they say is checked: nobody has to believe it.
pub mod StatsOnce
