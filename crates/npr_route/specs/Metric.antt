-- The metrics of a route (linux/rtnetlink.h, RTAX_*), by their table.
use Rattle.npr_base.specs.declared.attribute_set.AttributeSet.TheVariants.{Metric as OfMetric}
use Rattle.npr_base.specs.Tables.{EnumTable, table_of, row, others, ◌or◌, value, text, exactly, name, le32, refl, Reading, Family, writing_of}
use Rattle.npr_base.specs.Tables.{attributes_of, family_of_table}
use Rattle.npr_route.specs.declared.metrics.RouteMetric.{RouteMetric}
use Rattle.npr_route.specs.contracts.metrics.RouteMetric.{enum}

-- the table, in the order of the variants
abbrev pub table : EnumTable enum
table =
    table_of enum (
    row OfMetric 1 (exactly le32) (value RouteMetric.Lock)  -- RTAX_LOCK
    or row OfMetric 2 (exactly le32) (value RouteMetric.Mtu)  -- RTAX_MTU
    or row OfMetric 3 (exactly le32) (value RouteMetric.Window)  -- RTAX_WINDOW
    or row OfMetric 4 (exactly le32) (value RouteMetric.Rtt)  -- RTAX_RTT
    or row OfMetric 5 (exactly le32) (value RouteMetric.RttVar)  -- RTAX_RTTVAR
    or row OfMetric 6 (exactly le32) (value RouteMetric.SsThresh)  -- RTAX_SSTHRESH
    or row OfMetric 7 (exactly le32) (value RouteMetric.Cwnd)  -- RTAX_CWND
    or row OfMetric 8 (exactly le32) (value RouteMetric.Advmss)  -- RTAX_ADVMSS
    or row OfMetric 9 (exactly le32) (value RouteMetric.Reordering)  -- RTAX_REORDERING
    or row OfMetric 10 (exactly le32) (value RouteMetric.Hoplimit)  -- RTAX_HOPLIMIT
    or row OfMetric 11 (exactly le32) (value RouteMetric.InitCwnd)  -- RTAX_INITCWND
    or row OfMetric 12 (exactly le32) (value RouteMetric.Features)  -- RTAX_FEATURES
    or row OfMetric 13 (exactly le32) (value RouteMetric.RtoMin)  -- RTAX_RTO_MIN
    or row OfMetric 14 (exactly le32) (value RouteMetric.InitRwnd)  -- RTAX_INITRWND
    or row OfMetric 15 (exactly le32) (value RouteMetric.QuickAck)  -- RTAX_QUICKACK
    or row OfMetric 16 name (text RouteMetric.CcAlgo)  -- RTAX_CC_ALGO
    or row OfMetric 17 (exactly le32) (value RouteMetric.FastopenNoCookie)  -- RTAX_FASTOPEN_NO_COOKIE
    or others (value RouteMetric.Other)) refl refl

-- the family
unfoldable pub attributes : Reading (writing_of table)
attributes = attributes_of table

abbrev pub family : Family RouteMetric (Unit {0})
family = family_of_table table (λ c. attributes)
