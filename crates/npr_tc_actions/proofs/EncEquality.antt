-- What `==` answers of the options of tunnels: whether two values mean the same.
use Rattle.npr_base.proofs.FieldEquality.{list, number, bytes, kept}
use Rattle.npr_base.specs.EnumTable.{◌also◌}
use Rattle.npr_base.specs.Equality.{IsEqualityOf}
use Rattle.npr_base.specs.Tables.{table_decides}
use Rattle.npr_tc_actions.specs.EncErspan as OfErspan
use Rattle.npr_tc_actions.specs.EncGeneve as OfGeneve
use Rattle.npr_tc_actions.specs.EncGtp as OfGtp
use Rattle.npr_tc_actions.specs.EncOption as OfEnc
use Rattle.npr_tc_actions.specs.EncPfcp as OfPfcp
use Rattle.npr_tc_actions.specs.EncVxlan as OfVxlan
use Rattle.npr_tc_actions.specs.contracts.enc_erspan.TcEncErspanPartialEq.TheImpl as ErspanEq
use Rattle.npr_tc_actions.specs.contracts.enc_geneve.TcEncGenevePartialEq.TheImpl as GeneveEq
use Rattle.npr_tc_actions.specs.contracts.enc_gtp.TcEncGtpPartialEq.TheImpl as GtpEq
use Rattle.npr_tc_actions.specs.contracts.enc_option.TcEncOptionPartialEq.TheImpl as EncEq
use Rattle.npr_tc_actions.specs.contracts.enc_pfcp.TcEncPfcpPartialEq.TheImpl as PfcpEq
use Rattle.npr_tc_actions.specs.contracts.enc_vxlan.TcEncVxlanPartialEq.TheImpl as VxlanEq

pub enc_geneve_equality : IsEqualityOf OfGeneve.family.meaning GeneveEq.ghosts.eq
enc_geneve_equality = table_decides OfGeneve.table _ (number also number also bytes also kept also tt)

pub enc_vxlan_equality : IsEqualityOf OfVxlan.family.meaning VxlanEq.ghosts.eq
enc_vxlan_equality = table_decides OfVxlan.table _ (number also kept also tt)

pub enc_erspan_equality : IsEqualityOf OfErspan.family.meaning ErspanEq.ghosts.eq
enc_erspan_equality = table_decides OfErspan.table _ (number also number also number also number also kept also tt)

pub enc_gtp_equality : IsEqualityOf OfGtp.family.meaning GtpEq.ghosts.eq
enc_gtp_equality = table_decides OfGtp.table _ (number also number also kept also tt)

pub enc_pfcp_equality : IsEqualityOf OfPfcp.family.meaning PfcpEq.ghosts.eq
enc_pfcp_equality = table_decides OfPfcp.table _ (number also number also kept also tt)

pub enc_option_equality : IsEqualityOf OfEnc.family.meaning EncEq.ghosts.eq
enc_option_equality =
    table_decides OfEnc.table _
    (list enc_geneve_equality also list enc_vxlan_equality also list enc_erspan_equality also list enc_gtp_equality also
    list enc_pfcp_equality also kept also tt)
