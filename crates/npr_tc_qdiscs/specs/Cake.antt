-- The data of `cake` (linux/pkt_sched.h, TCA_CAKE_*), by the table.
use Rattle.std.specs.Prelude.{false}
use Rattle.npr_base.specs.declared.attribute_set.AttributeSet.TheVariants.{TcQdiscCake as AtTcQdiscCake}
use Rattle.npr_base.specs.Counts.{Counts}
use Rattle.npr_base.specs.Framing.{Item}
use Rattle.npr_base.specs.RowReading.{looks-none}
use Rattle.npr_base.specs.Tables.{EnumTable, table_of, others, ◌or◌, exactly, le32, le64, row, signed32, value}
use Rattle.npr_base.specs.Tables.{refl, Reading, Family, writing_of, attributes_of, family_of_table}
use Rattle.npr_tc_qdiscs.specs.CakeAckFilter.{cake_ack_filter}
use Rattle.npr_tc_qdiscs.specs.CakeAtm.{cake_atm}
use Rattle.npr_tc_qdiscs.specs.CakeDiffservMode.{cake_diffserv_mode}
use Rattle.npr_tc_qdiscs.specs.CakeFlowMode.{cake_flow_mode}
use Rattle.npr_tc_qdiscs.specs.contracts.cake.TcQdiscCakeOption.{enum}
use Rattle.npr_tc_qdiscs.specs.declared.cake.TcQdiscCakeOption.{TcQdiscCakeOption}

-- the table, in the order of the variants
abbrev pub table : EnumTable enum
table =
    table_of enum (
    row AtTcQdiscCake 2 (exactly le64) (value TcQdiscCakeOption.BaseRate64)  -- TCA_CAKE_BASE_RATE64
    or row AtTcQdiscCake 3 (exactly cake_diffserv_mode) (value TcQdiscCakeOption.DiffservMode)  -- TCA_CAKE_DIFFSERV_MODE
    or row AtTcQdiscCake 4 (exactly cake_atm) (value TcQdiscCakeOption.Atm)  -- TCA_CAKE_ATM
    or row AtTcQdiscCake 5 (exactly cake_flow_mode) (value TcQdiscCakeOption.FlowMode)  -- TCA_CAKE_FLOW_MODE
    or row AtTcQdiscCake 6 (exactly signed32) (value TcQdiscCakeOption.Overhead)  -- TCA_CAKE_OVERHEAD
    or row AtTcQdiscCake 7 (exactly le32) (value TcQdiscCakeOption.Rtt)  -- TCA_CAKE_RTT
    or row AtTcQdiscCake 8 (exactly le32) (value TcQdiscCakeOption.Target)  -- TCA_CAKE_TARGET
    or row AtTcQdiscCake 9 (exactly le32) (value TcQdiscCakeOption.Autorate)  -- TCA_CAKE_AUTORATE
    or row AtTcQdiscCake 10 (exactly le32) (value TcQdiscCakeOption.Memory)  -- TCA_CAKE_MEMORY
    or row AtTcQdiscCake 11 (exactly le32) (value TcQdiscCakeOption.Nat)  -- TCA_CAKE_NAT
    or row AtTcQdiscCake 12 (exactly le32) (value TcQdiscCakeOption.Raw)  -- TCA_CAKE_RAW
    or row AtTcQdiscCake 13 (exactly le32) (value TcQdiscCakeOption.Wash)  -- TCA_CAKE_WASH
    or row AtTcQdiscCake 14 (exactly le32) (value TcQdiscCakeOption.Mpu)  -- TCA_CAKE_MPU
    or row AtTcQdiscCake 15 (exactly le32) (value TcQdiscCakeOption.Ingress)  -- TCA_CAKE_INGRESS
    or row AtTcQdiscCake 16 (exactly cake_ack_filter) (value TcQdiscCakeOption.AckFilter)  -- TCA_CAKE_ACK_FILTER
    or row AtTcQdiscCake 17 (exactly le32) (value TcQdiscCakeOption.SplitGso)  -- TCA_CAKE_SPLIT_GSO
    or row AtTcQdiscCake 18 (exactly le32) (value TcQdiscCakeOption.FwMark)  -- TCA_CAKE_FWMARK
    or others (value TcQdiscCakeOption.Other)) refl refl

-- the family
unfoldable pub attributes : Reading (writing_of table)
attributes = attributes_of table

abbrev pub family : Family TcQdiscCakeOption (Unit {0})
family = family_of_table table (λ c. attributes)

-- none has attributes inside
pub no_looks : (x : Item) (c : Counts) → attributes.looks.Takes x c c
unfolding attributes
no_looks x c = looks-none (λ k. false) enum.parts table.rows refl x c refl
