-- The data of a bond (linux/if_link.h, IFLA_BOND_*), by the table.
use Rattle.std.specs.Prelude.{◌≢◌, ℕ, ◌==◌, ◌||◌, Bool}
use Rattle.std.proofs.lemmas.Bool.{ne_eqb}
use Rattle.npr_base.specs.declared.attribute_set.AttributeSet.TheVariants.{InfoBond as AtBond, BondAdInfo as AtAdInfo}
use Rattle.npr_base.specs.Counts.{Counts}
use Rattle.npr_base.specs.Framing.{Item, number_of}
use Rattle.npr_base.specs.RowReading.{looks-none}
use Rattle.npr_base.specs.Tables.{EnumTable, table_of, row, others, ◌or◌, boolean, byte, exactly, le16, le32, list_of, listed, marked_row, octets, value}
use Rattle.npr_base.specs.Tables.{refl, Reading, Family, writing_of, attributes_of, family_of_table}
use Rattle.npr_link_devices.specs.AdInfo as OfAdInfo
use Rattle.npr_link_devices.specs.Addresses.{addresses, octets_of}
use Rattle.npr_link_devices.specs.AllPortActive.{all_port_active}
use Rattle.npr_link_devices.specs.ArpAllTargets.{arp_all_targets}
use Rattle.npr_link_devices.specs.ArpValidate.{arp_validation}
use Rattle.npr_link_devices.specs.BondMode.{bond_mode}
use Rattle.npr_link_devices.specs.FailOverMac.{fail_over_mac}
use Rattle.npr_link_devices.specs.LacpRate.{lacp_rate}
use Rattle.npr_link_devices.specs.PrimaryReselect.{primary_reselect}
use Rattle.npr_link_devices.specs.XmitHashPolicy.{xmit_hash_policy}
use Rattle.npr_link_devices.specs.contracts.bond.InfoBond.{enum}
use Rattle.npr_link_devices.specs.declared.bond.InfoBond.{InfoBond}

-- the table, in the order of the variants
abbrev pub table : EnumTable enum
table =
    table_of enum (
    row AtBond 1 (exactly bond_mode) (value InfoBond.Mode)  -- IFLA_BOND_MODE
    or row AtBond 2 (exactly le32) (value InfoBond.ActivePort)  -- IFLA_BOND_ACTIVE_SLAVE
    or row AtBond 3 (exactly le32) (value InfoBond.MiiMon)  -- IFLA_BOND_MIIMON
    or row AtBond 4 (exactly le32) (value InfoBond.UpDelay)  -- IFLA_BOND_UPDELAY
    or row AtBond 5 (exactly le32) (value InfoBond.DownDelay)  -- IFLA_BOND_DOWNDELAY
    or row AtBond 6 (exactly boolean) (value InfoBond.UseCarrier)  -- IFLA_BOND_USE_CARRIER
    or row AtBond 7 (exactly le32) (value InfoBond.ArpInterval)  -- IFLA_BOND_ARP_INTERVAL
    or row AtBond 8 (addresses 4 refl) (listed octets_of InfoBond.ArpIpTarget)  -- IFLA_BOND_ARP_IP_TARGET
    or row AtBond 9 (exactly arp_validation) (value InfoBond.ArpValidate)  -- IFLA_BOND_ARP_VALIDATE
    or row AtBond 10 (exactly arp_all_targets) (value InfoBond.ArpAllTargets)  -- IFLA_BOND_ARP_ALL_TARGETS
    or row AtBond 11 (exactly le32) (value InfoBond.Primary)  -- IFLA_BOND_PRIMARY
    or row AtBond 12 (exactly primary_reselect) (value InfoBond.PrimaryReselect)  -- IFLA_BOND_PRIMARY_RESELECT
    or row AtBond 13 (exactly fail_over_mac) (value InfoBond.FailOverMac)  -- IFLA_BOND_FAIL_OVER_MAC
    or row AtBond 14 (exactly xmit_hash_policy) (value InfoBond.XmitHashPolicy)  -- IFLA_BOND_XMIT_HASH_POLICY
    or row AtBond 15 (exactly le32) (value InfoBond.ResendIgmp)  -- IFLA_BOND_RESEND_IGMP
    or row AtBond 16 (exactly byte) (value InfoBond.NumPeerNotif)  -- IFLA_BOND_NUM_PEER_NOTIF
    or row AtBond 17 (exactly all_port_active) (value InfoBond.AllPortsActive)  -- IFLA_BOND_ALL_SLAVES_ACTIVE
    or row AtBond 18 (exactly le32) (value InfoBond.MinLinks)  -- IFLA_BOND_MIN_LINKS
    or row AtBond 19 (exactly le32) (value InfoBond.LpInterval)  -- IFLA_BOND_LP_INTERVAL
    or row AtBond 20 (exactly le32) (value InfoBond.PacketsPerPort)  -- IFLA_BOND_PACKETS_PER_SLAVE
    or row AtBond 21 (exactly lacp_rate) (value InfoBond.AdLacpRate)  -- IFLA_BOND_AD_LACP_RATE
    or row AtBond 22 (exactly byte) (value InfoBond.AdSelect)  -- IFLA_BOND_AD_SELECT
    or row AtBond 23 (list_of AtAdInfo OfAdInfo.attributes) (listed OfAdInfo.family.meaning InfoBond.AdInfo)  -- IFLA_BOND_AD_INFO
    or row AtBond 24 (exactly le16) (value InfoBond.AdActorSysPrio)  -- IFLA_BOND_AD_ACTOR_SYS_PRIO
    or row AtBond 25 (exactly le16) (value InfoBond.AdUserPortKey)  -- IFLA_BOND_AD_USER_PORT_KEY
    or row AtBond 26 (exactly (octets 6)) (value InfoBond.AdActorSystem)  -- IFLA_BOND_AD_ACTOR_SYSTEM
    or row AtBond 27 (exactly boolean) (value InfoBond.TlbDynamicLb)  -- IFLA_BOND_TLB_DYNAMIC_LB
    or row AtBond 28 (exactly le32) (value InfoBond.PeerNotifDelay)  -- IFLA_BOND_PEER_NOTIF_DELAY
    or row AtBond 29 (exactly boolean) (value InfoBond.AdLacpActive)  -- IFLA_BOND_AD_LACP_ACTIVE
    or row AtBond 30 (exactly byte) (value InfoBond.MissedMax)  -- IFLA_BOND_MISSED_MAX
    or marked_row AtBond 31 (addresses 16 refl) (listed octets_of InfoBond.NsIp6Target)  -- IFLA_BOND_NS_IP6_TARGET
    or row AtBond 32 (exactly boolean) (value InfoBond.CoupledControl)  -- IFLA_BOND_COUPLED_CONTROL
    or row AtBond 33 (exactly boolean) (value InfoBond.BroadcastNeigh)  -- IFLA_BOND_BROADCAST_NEIGH
    or row AtBond 34 (exactly boolean) (value InfoBond.LacpStrict)  -- IFLA_BOND_LACP_STRICT
    or others (value InfoBond.Other)) refl refl

-- the family
unfoldable pub attributes : Reading (writing_of table)
attributes = attributes_of table

abbrev pub family : Family InfoBond (Unit {0})
family = family_of_table table (λ c. attributes)

-- the numbers of those with attributes inside
abbrev pub is_list : ℕ → Bool
is_list number = number == 8 || (number == 23 || number == 31)

pub no_looks : (x : Item) (c : Counts) → (number_of x.kind ≢ 8) → (number_of x.kind ≢ 23) → (number_of x.kind ≢ 31) → attributes.looks.Takes x c c
unfolding attributes
no_looks x c o p q =
    looks-none is_list enum.parts table.rows refl x c
    (rw (ne_eqb (number_of x.kind) 8 o, ne_eqb (number_of x.kind) 23 p, ne_eqb (number_of x.kind) 31 q))
