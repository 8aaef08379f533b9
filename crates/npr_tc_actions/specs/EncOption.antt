-- The options of a tunnel (linux/pkt_cls.h, TCA_FLOWER_KEY_ENC_OPTS_*), by the table; kernels refuse those but of Geneve without NESTED.
use Rattle.npr_base.specs.declared.attribute_set.AttributeSet.TheVariants.{TcEnc as AtTcEnc, TcEncGeneve as AtTcEncGeneve, TcEncVxlan as AtTcEncVxlan}
use Rattle.npr_base.specs.declared.attribute_set.AttributeSet.TheVariants.{TcEncErspan as AtTcEncErspan, TcEncGtp as AtTcEncGtp}
use Rattle.npr_base.specs.declared.attribute_set.AttributeSet.TheVariants.{TcEncPfcp as AtTcEncPfcp}
use Rattle.npr_base.specs.Tables.{EnumTable, table_of, row, marked_row, others, ◌or◌, list_of, listed, value, refl, Reading, Family, writing_of}
use Rattle.npr_base.specs.Tables.{attributes_of, family_of_table}
use Rattle.npr_tc_actions.specs.EncGeneve as OfGeneve
use Rattle.npr_tc_actions.specs.EncVxlan as OfVxlan
use Rattle.npr_tc_actions.specs.EncErspan as OfErspan
use Rattle.npr_tc_actions.specs.EncGtp as OfGtp
use Rattle.npr_tc_actions.specs.EncPfcp as OfPfcp
use Rattle.npr_tc_actions.specs.contracts.enc_option.TcEncOption.{enum}
use Rattle.npr_tc_actions.specs.declared.enc_option.TcEncOption.{TcEncOption}

-- the table, in the order of the variants
abbrev pub table : EnumTable enum
table =
    table_of enum (
    row AtTcEnc 1 (list_of AtTcEncGeneve OfGeneve.attributes) (listed OfGeneve.family.meaning TcEncOption.Geneve)  -- TCA_FLOWER_KEY_ENC_OPTS_GENEVE
    or marked_row AtTcEnc 2 (list_of AtTcEncVxlan OfVxlan.attributes) (listed OfVxlan.family.meaning TcEncOption.Vxlan)  -- TCA_FLOWER_KEY_ENC_OPTS_VXLAN
    or marked_row AtTcEnc 3 (list_of AtTcEncErspan OfErspan.attributes) (listed OfErspan.family.meaning TcEncOption.Erspan)  -- TCA_FLOWER_KEY_ENC_OPTS_ERSPAN
    or marked_row AtTcEnc 4 (list_of AtTcEncGtp OfGtp.attributes) (listed OfGtp.family.meaning TcEncOption.Gtp)  -- TCA_FLOWER_KEY_ENC_OPTS_GTP
    or marked_row AtTcEnc 5 (list_of AtTcEncPfcp OfPfcp.attributes) (listed OfPfcp.family.meaning TcEncOption.Pfcp)  -- TCA_FLOWER_KEY_ENC_OPTS_PFCP
    or others (value TcEncOption.Other)) refl refl

-- the family
unfoldable pub attributes : Reading (writing_of table)
attributes = attributes_of table

abbrev pub family : Family TcEncOption (Unit {0})
family = family_of_table table (λ c. attributes)
