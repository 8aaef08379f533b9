-- A message of statistics: its header, and attributes to the end (linux/if_link.h).
use Rattle.npr_base.specs.Message.{Grammar, grammar_by}
use Rattle.npr_stats.specs.Attribute.{family}
use Rattle.npr_stats.specs.Header.{header, default_header}
use Rattle.npr_stats.specs.declared.attribute.StatsAttribute.{StatsAttribute}
use Rattle.npr_stats.specs.declared.header.StatsHeader.{StatsHeader}

abbrev pub stats_messages : Grammar StatsHeader StatsAttribute
stats_messages = grammar_by family header default_header (λ h. tt)
