-- The parameters of a table of neighbours (linux/neighbour.h, NDTPA_*), by the table.
use Rattle.npr_base.specs.declared.attribute_set.AttributeSet.TheVariants.{NeighbourTableParameter as AtNeighbourTableParameter}
use Rattle.npr_base.specs.Tables.{EnumTable, table_of, row, others, ◌or◌, value, exactly, le32, le64, refl, Reading, Family, writing_of, attributes_of}
use Rattle.npr_base.specs.Tables.{family_of_table}
use Rattle.npr_neighbour.specs.contracts.neighbour_table_parameter.NeighbourTableParameter.{enum}
use Rattle.npr_neighbour.specs.declared.neighbour_table_parameter.NeighbourTableParameter.{NeighbourTableParameter}

-- the table, in the order of the variants
abbrev pub table : EnumTable enum
table =
    table_of enum (
    row AtNeighbourTableParameter 1 (exactly le32) (value NeighbourTableParameter.Ifindex)  -- NDTPA_IFINDEX
    or row AtNeighbourTableParameter 2 (exactly le32) (value NeighbourTableParameter.ReferenceCount)  -- NDTPA_REFCNT
    or row AtNeighbourTableParameter 3 (exactly le64) (value NeighbourTableParameter.ReachableTime)  -- NDTPA_REACHABLE_TIME
    or row AtNeighbourTableParameter 4 (exactly le64) (value NeighbourTableParameter.BaseReachableTime)  -- NDTPA_BASE_REACHABLE_TIME
    or row AtNeighbourTableParameter 5 (exactly le64) (value NeighbourTableParameter.RetransTime)  -- NDTPA_RETRANS_TIME
    or row AtNeighbourTableParameter 6 (exactly le64) (value NeighbourTableParameter.GcStaletime)  -- NDTPA_GC_STALETIME
    or row AtNeighbourTableParameter 7 (exactly le64) (value NeighbourTableParameter.DelayProbeTime)  -- NDTPA_DELAY_PROBE_TIME
    or row AtNeighbourTableParameter 8 (exactly le32) (value NeighbourTableParameter.QueueLen)  -- NDTPA_QUEUE_LEN
    or row AtNeighbourTableParameter 9 (exactly le32) (value NeighbourTableParameter.AppProbes)  -- NDTPA_APP_PROBES
    or row AtNeighbourTableParameter 10 (exactly le32) (value NeighbourTableParameter.UcastProbes)  -- NDTPA_UCAST_PROBES
    or row AtNeighbourTableParameter 11 (exactly le32) (value NeighbourTableParameter.McastProbes)  -- NDTPA_MCAST_PROBES
    or row AtNeighbourTableParameter 12 (exactly le64) (value NeighbourTableParameter.AnycastDelay)  -- NDTPA_ANYCAST_DELAY
    or row AtNeighbourTableParameter 13 (exactly le64) (value NeighbourTableParameter.ProxyDelay)  -- NDTPA_PROXY_DELAY
    or row AtNeighbourTableParameter 14 (exactly le32) (value NeighbourTableParameter.ProxyQlen)  -- NDTPA_PROXY_QLEN
    or row AtNeighbourTableParameter 15 (exactly le64) (value NeighbourTableParameter.Locktime)  -- NDTPA_LOCKTIME
    or row AtNeighbourTableParameter 16 (exactly le32) (value NeighbourTableParameter.QueueLenbytes)  -- NDTPA_QUEUE_LENBYTES
    or row AtNeighbourTableParameter 17 (exactly le32) (value NeighbourTableParameter.McastReprobes)  -- NDTPA_MCAST_REPROBES
    or row AtNeighbourTableParameter 19 (exactly le64) (value NeighbourTableParameter.IntervalProbeTimeMs)  -- NDTPA_INTERVAL_PROBE_TIME_MS
    or others (value NeighbourTableParameter.Other)) refl refl

-- the family
unfoldable pub attributes : Reading (writing_of table)
attributes = attributes_of table

abbrev pub family : Family NeighbourTableParameter (Unit {0})
family = family_of_table table (λ c. attributes)
