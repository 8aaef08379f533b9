-- The data of ingress and of clsact (linux/pkt_sched.h), which have no numbers: each attribute stands for itself.
use Rattle.npr_base.specs.declared.attribute_set.AttributeSet.TheVariants.{TcQdiscIngress as AtIngress}
use Rattle.npr_base.specs.declared.value.Form.TheVariants.{Raw}
use Rattle.npr_base.specs.Refusal.{at_number}
use Rattle.npr_base.specs.Tables.{EnumTable, table_of, others, value, refl, Reading, Family, writing_of, attributes_of, family_of_table}
use Rattle.npr_tc_qdiscs.specs.contracts.ingress.TcQdiscIngressOption.{enum}
use Rattle.npr_tc_qdiscs.specs.declared.ingress.TcQdiscIngressOption.{TcQdiscIngressOption}

-- a table without rows
abbrev pub table : EnumTable enum
table = table_of enum (others (value TcQdiscIngressOption.Other)) refl refl

-- the family: with a name of its own in refusals, since the table has none without a row
unfoldable pub attributes : Reading (writing_of table)
attributes =
    let family = attributes_of table in
    record family {
      seeing = record family.seeing {
        form_at = λ k. (at_number AtIngress k, Raw);
        shows = λ x s m p q. family.seeing.shows x s m p q;
        whole = λ x s w p. family.seeing.whole x s w p;
        wrong = λ x e p. family.seeing.wrong x e p;
      };
    }

abbrev pub family : Family TcQdiscIngressOption (Unit {0})
family = family_of_table table (λ c. attributes)
