-- The tests of a filter (linux/pkt_cls.h, TCA_EMATCH_TREE_LIST): in a list of them each attribute is one, whose number is its place, and
-- whose value is a structure, and what it is tested with, as it stands.
use Rattle.std.specs.Prelude.{ℕ, List}
use Rattle.npr_base.specs.Codec.{Codec}
use Rattle.npr_base.specs.declared.attribute_set.AttributeSet.TheVariants.{TcEmatches as AtTcEmatches}
use Rattle.npr_base.specs.Family.{Reading, Family}
use Rattle.npr_tc_values.specs.Numbered as Of
use Rattle.npr_tc_values.specs.Numbered.{Numbered}
use Rattle.npr_tc_filters.specs.EmatchHeader.{ematch_header}
use Rattle.npr_tc_actions.specs.Headed.{headed_bytes}
use Rattle.npr_tc_filters.specs.declared.ematch.TcEmatch.{TcEmatch}
use Rattle.npr_tc_filters.specs.declared.ematch_header.TcEmatchHeader.{TcEmatchHeader}

-- the structure, and the bytes behind it
abbrev pub Body : Type 0
Body = TcEmatchHeader × List ℕ

abbrev pub body : Codec Body
body = headed_bytes ematch_header

-- what a test is, without where its bytes lie in memory
abbrev pub Meaning : Type 0
Meaning = Numbered Body

abbrev pub meaning : TcEmatch → Meaning
meaning m = record { number = m.tab; value = (m.header, m.data.items) }

abbrev pub attributes : Reading (Of.writing AtTcEmatches body)
attributes = Of.numbered AtTcEmatches body

abbrev pub family : Family TcEmatch (Unit {0})
family = record { Meaning = Meaning; meaning = meaning; writing = Of.writing AtTcEmatches body; reading = λ c. attributes }
