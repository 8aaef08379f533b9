-- What `==` answers of what a link says of its virtual functions and ports: whether it means the same.
use Rattle.npr_base.specs.Equality.{IsEqualityOf}
use Rattle.npr_base.specs.EnumTable.{◌also◌}
use Rattle.npr_base.specs.Tables.{table_decides}
use Rattle.npr_base.proofs.FieldEquality.{one, list, number, kept}
use Rattle.npr_base.proofs.MeaningLaws.{text_equality}
use Rattle.npr_base.specs.ViewEquality.{bytes_equality}
use Rattle.npr_link_functions.specs.VfStats as OfVfStats
use Rattle.npr_link_functions.specs.contracts.vf_stats.VfStatsPartialEq.TheImpl as VfStatsEq
use Rattle.npr_link_functions.specs.VfVlanList as OfVfVlanList
use Rattle.npr_link_functions.specs.contracts.vf_vlan_list.VfVlanPartialEq.TheImpl as VfVlanEq
use Rattle.npr_link_functions.specs.VfInfo as OfVfInfo
use Rattle.npr_link_functions.specs.contracts.vf_info.VfInfoPartialEq.TheImpl as VfInfoEq
use Rattle.npr_link_functions.specs.LinkVfInfo as OfLinkVfInfo
use Rattle.npr_link_functions.specs.contracts.link_vf_info.LinkVfInfoPartialEq.TheImpl as LinkVfInfoEq
use Rattle.npr_link_functions.specs.LinkVfPort as OfLinkVfPort
use Rattle.npr_link_functions.specs.contracts.link_vf_port.LinkVfPortPartialEq.TheImpl as LinkVfPortEq
use Rattle.npr_link_functions.specs.VfPort as OfVfPort
use Rattle.npr_link_functions.specs.contracts.vf_port.VfPortPartialEq.TheImpl as VfPortEq
use Rattle.npr_link_functions.proofs.ValueEquality.{mac_equality, broadcast_equality, vlan_equality, tx_rate_equality, rate_equality, setting_equality, link_state_of_equality, guid_equality}
use Rattle.npr_link_functions.proofs.ValueEquality.{vlan_info_equality}

pub stats_equality : IsEqualityOf OfVfStats.family.meaning VfStatsEq.ghosts.eq
stats_equality =
    table_decides OfVfStats.table _
    (number also number also number also number also number also number also number also number also kept also tt)

pub vlan_list_equality : IsEqualityOf OfVfVlanList.family.meaning VfVlanEq.ghosts.eq
vlan_list_equality =
    table_decides OfVfVlanList.table _
    (one vlan_info_equality also kept also tt)

pub info_equality : IsEqualityOf OfVfInfo.family.meaning VfInfoEq.ghosts.eq
info_equality =
    table_decides OfVfInfo.table _
    (one mac_equality also one vlan_equality also one tx_rate_equality also one setting_equality also one link_state_of_equality also one rate_equality also
    one setting_equality also list stats_equality also one setting_equality also one guid_equality also one guid_equality also list vlan_list_equality also
    one broadcast_equality also kept also tt)

pub link_info_equality : IsEqualityOf OfLinkVfInfo.family.meaning LinkVfInfoEq.ghosts.eq
link_info_equality =
    table_decides OfLinkVfInfo.table _
    (list info_equality also kept also tt)

pub port_equality : IsEqualityOf OfVfPort.family.meaning VfPortEq.ghosts.eq
port_equality =
    table_decides OfVfPort.table _
    (number also one text_equality also one bytes_equality also one bytes_equality also number also number also kept also tt)

pub link_port_equality : IsEqualityOf OfLinkVfPort.family.meaning LinkVfPortEq.ghosts.eq
link_port_equality =
    table_decides OfLinkVfPort.table _
    (list port_equality also kept also tt)
