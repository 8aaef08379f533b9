-- What an action says of tunnels is read with one failed look at most.
use Rattle.npr_base.specs.lemmas.Fails.{FailsOnce, list-once, rows-once}
use Rattle.npr_tc_actions.specs.EncErspan as OfErspan
use Rattle.npr_tc_actions.specs.EncGeneve as OfGeneve
use Rattle.npr_tc_actions.specs.EncGtp as OfGtp
use Rattle.npr_tc_actions.specs.EncOption as OfEnc
use Rattle.npr_tc_actions.specs.EncPfcp as OfPfcp
use Rattle.npr_tc_actions.specs.EncVxlan as OfVxlan
use Rattle.npr_tc_actions.specs.TunnelKeyOption as OfTunnelKey
use Rattle.npr_tc_actions.specs.contracts.enc_erspan.TcEncErspan.{enum as erspan_enum}
use Rattle.npr_tc_actions.specs.contracts.enc_geneve.TcEncGeneve.{enum as geneve_enum}
use Rattle.npr_tc_actions.specs.contracts.enc_gtp.TcEncGtp.{enum as gtp_enum}
use Rattle.npr_tc_actions.specs.contracts.enc_option.TcEncOption.{enum as enc_enum}
use Rattle.npr_tc_actions.specs.contracts.enc_pfcp.TcEncPfcp.{enum as pfcp_enum}
use Rattle.npr_tc_actions.specs.contracts.enc_vxlan.TcEncVxlan.{enum as vxlan_enum}
use Rattle.npr_tc_actions.specs.contracts.tunnel_key_option.TcActionTunnelKeyOption.{enum as tunnel_key_enum}

geneve_once : FailsOnce OfGeneve.attributes.looks
unfolding OfGeneve.attributes
geneve_once = rows-once geneve_enum.parts OfGeneve.table.rows tt

vxlan_once : FailsOnce OfVxlan.attributes.looks
unfolding OfVxlan.attributes
vxlan_once = rows-once vxlan_enum.parts OfVxlan.table.rows tt

erspan_once : FailsOnce OfErspan.attributes.looks
unfolding OfErspan.attributes
erspan_once = rows-once erspan_enum.parts OfErspan.table.rows tt

gtp_once : FailsOnce OfGtp.attributes.looks
unfolding OfGtp.attributes
gtp_once = rows-once gtp_enum.parts OfGtp.table.rows tt

pfcp_once : FailsOnce OfPfcp.attributes.looks
unfolding OfPfcp.attributes
pfcp_once = rows-once pfcp_enum.parts OfPfcp.table.rows tt

pub enc_once : FailsOnce OfEnc.attributes.looks
unfolding OfEnc.attributes
enc_once =
    rows-once enc_enum.parts OfEnc.table.rows (
      list-once OfGeneve.attributes geneve_once,
      (
        list-once OfVxlan.attributes vxlan_once,
        (
          list-once OfErspan.attributes erspan_once,
          (list-once OfGtp.attributes gtp_once, (list-once OfPfcp.attributes pfcp_once, tt)),
        ),
      ),
    )

pub tunnel_key_once : FailsOnce OfTunnelKey.attributes.looks
unfolding OfTunnelKey.attributes
tunnel_key_once = rows-once tunnel_key_enum.parts OfTunnelKey.table.rows (list-once OfEnc.attributes enc_once, tt)
