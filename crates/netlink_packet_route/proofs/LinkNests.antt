-- The lists in the attributes of a link, in what its driver says, and in the data of a tunnel of IP, under every context.
use Rattle.std.specs.Prelude.{◌≡◌, ℕ, List, Option, Some, None}
use Rattle.std.proofs.Common.{refl, ap, ◌∙◌}
use Rattle.npr_base.specs.EnumTable.{family_in}
use Rattle.npr_base.specs.EnumFamily.{attributes_in}
use Rattle.npr_base.specs.Family.{Writing, Reading}
use Rattle.npr_base.specs.Framing.{Item, number_of}
use Rattle.npr_base.specs.ListCodec.{list_of}
use Rattle.npr_base.specs.Nesting.{Lists, Nests, ListRow, RowAnd, NestRows}
use Rattle.npr_base.proofs.NestLaws.{plain-list, in-rows, table-nests, beside-nests, left-nests, retold-nests}
use Rattle.npr_base.specs.declared.attribute_set.At.{At}
use Rattle.npr_base.specs.declared.attribute_set.AttributeSet.{AttributeSet}
use Rattle.npr_base.specs.declared.attribute_set.AttributeSet.TheVariants as At
use Rattle.npr_link_tunnels.specs.IpTunnel as OfIpTunnel
use Rattle.npr_link.specs.AfSpecInet6 as OfAfSpecInet6
use Rattle.npr_link.specs.Attribute as OfLink
use Rattle.npr_link_bridge.specs.BridgePort as OfBridgePort
use Rattle.npr_link.specs.Info as OfInfo
use Rattle.npr_link.specs.AfSpecs as OfAfSpecs
use Rattle.npr_link.specs.InfoList.{info_list}
use Rattle.npr_link.specs.InfoData as OfData
use Rattle.npr_link.specs.InfoData.{info_data}
use Rattle.npr_link.specs.PortData as OfPortData
use Rattle.npr_link.specs.PortData.{port_data}
use Rattle.npr_link.specs.ProtoInfos as OfProto
use Rattle.npr_link.specs.declared.port_kind.InfoPortForm.{InfoPortForm}
use Rattle.npr_link.specs.declared.port_kind.InfoPortForm.TheVariants as Port
use Rattle.npr_link_tunnels.specs.TunnelFlags as OfTunnelFlags
use Rattle.npr_link_tunnels.specs.declared.form.InfoForm.{InfoForm}
use Rattle.npr_link_tunnels.specs.declared.form.InfoForm.TheVariants as Data
use Rattle.netlink_packet_route.specs.Nests.{Inner, nest_in, reading_of}
use Rattle.netlink_packet_route.specs.declared.context.Context.{Context}
use Rattle.netlink_packet_route.specs.declared.nests.Nest.{Nest}
use Rattle.netlink_packet_route.proofs.NestRows.{Own, listed-row, driver-row, chosen-row}

module _ (c : Context) where
  -- ---- of a link

  abbrev Held : AttributeSet → Type 0
  Held set = ListRow reading_of (Inner c) (Own At.Link c) (list_of set (reading_of (nest_in set c)).reading) set 0

  held : (set : AttributeSet) → ((bytes : List ℕ) (n : Nest) → Inner c set bytes n → n ≡ nest_in set c) → Held set
  held set only = listed-row At.Link c set only

  -- those that stand under any family
  lists : ListRow reading_of (Inner c) (Own At.Link c) info_list At.LinkInfo 0
      × (Held At.LinkXdp × (Held At.Prop × (Held At.LinkProtocolDownReason × (Held At.LinkVfInfo
      × (Held At.LinkVfPort × (Held At.VfPort × (Held At.LinkDpllPin × Unit {0})))))))
  lists = (
    driver-row At.Link c,
    (
      held At.LinkXdp (λ bytes n p. p),
      (
        held At.Prop (λ bytes n p. p),
        (
          held At.LinkProtocolDownReason (λ bytes n p. p),
          (
            held At.LinkVfInfo (λ bytes n p. p),
            (held At.LinkVfPort (λ bytes n p. p), (held At.VfPort (λ bytes n p. p), (held At.LinkDpllPin (λ bytes n p. p), tt))),
          ),
        ),
      ),
    ),
  )

  link-rows : (form : OfAfSpecs.Form) → NestRows reading_of (Inner c) (Own At.Link c) OfLink.later (OfLink.rows form).0
  link-rows OfAfSpecs.as_list = (
    chosen-row At.Link c OfAfSpecs.held (OfAfSpecs.case OfAfSpecs.as_list) At.AfSpecUnspec (listed-row At.Link c At.AfSpecUnspec (λ bytes n p. p)),
    lists,
  )
  link-rows OfAfSpecs.as_bridge = (
    chosen-row At.Link c OfAfSpecs.held (OfAfSpecs.case OfAfSpecs.as_bridge) At.AfSpecBridge (listed-row At.Link c At.AfSpecBridge (λ bytes n p. p)),
    lists,
  )
  link-rows OfAfSpecs.as_bytes = lists

  -- what the protocol says
  valued-list : {V : Type 0} {M : Type 0} {w : Writing M} (set : AttributeSet) (f : Reading w) (made : List M → V) (at : At) (x : Item)
      → ListRow reading_of (Inner c) (Own At.Link c) (list_of set f) set 0
      → Lists reading_of (Inner c) (Own At.Link c) (λ a. (v : List M) × (list_of set f).Reads x.value v × (a ≡ made v)) ((list_of set f).Wrong at x.value) set 0
      x.value
  valued-list set f made at x row =
      let o = row at x.value in
      record {
        down = λ n a inside p. o.down n p.0 inside p.1;
        up = λ n inside long list. let v = o.up n inside long list in (made v.0, (v.0, v.1, refl));
        fault = o.fault;
        cut = o.cut;
      }

  proto-nests : (proto : OfProto.Form) → Nests reading_of (Inner c) (Own At.Link c) (OfProto.proto_infos proto)
  proto-nests OfProto.as_inet6 = λ x.
      valued-list At.AfSpecInet6 OfAfSpecInet6.attributes OfProto.inet6 OfProto.place x (listed-row At.Link c At.AfSpecInet6 (λ bytes n p. p))
  proto-nests OfProto.as_bridge = λ x.
      valued-list At.InfoBridgePort OfBridgePort.attributes OfProto.bridge OfProto.place x (listed-row At.Link c At.InfoBridgePort (λ bytes n p. p))
  proto-nests OfProto.as_whole = λ x. tt

  rest-nests : (form : OfAfSpecs.Form) → Nests reading_of (Inner c) (Own At.Link c) (OfLink.rest form)
  rest-nests form = λ x.
      let rows = (OfLink.rows form).0 in
      in-rows reading_of (Inner c) (Own At.Link c) (family_in OfLink.later rows) OfLink.later rows (number_of x.kind) x (link-rows form)

  pub link-nests : Nests reading_of (Inner c) (Own At.Link c) (OfLink.attributes c.family)
  link-nests =
      let proto = OfProto.form_of c.family in
      let form = OfAfSpecs.form_of c.family in
      retold-nests reading_of (Inner c) (Own At.Link c) (OfLink.reading proto form) (OfLink.told proto form) (OfLink.told-same proto form)
      (beside-nests reading_of (Inner c) (Own At.Link c) 12 (OfProto.proto_infos proto) (OfLink.rest form) (OfLink.sides proto form) (proto-nests proto)
      (rest-nests form))

  -- ---- of what a driver says, by the kinds

  -- one of IP tells its kind
  tunnel-row : (link : InfoForm) → c.link ≡ link
      → ListRow reading_of (Inner c) (Own At.LinkInfo c) (list_of At.InfoIpTunnel (OfIpTunnel.attributes link)) At.InfoIpTunnel 0
  tunnel-row link same =
      plain-list reading_of (Inner c) (Own At.LinkInfo c) At.InfoIpTunnel (nest_in At.InfoIpTunnel (record c { link = link }))
      (λ bytes n p. p ∙ ap (λ (l : InfoForm). nest_in At.InfoIpTunnel (record c { link = l })) same)

  data-row : (link : InfoForm) → c.link ≡ link → (rest : Type 0) → rest
      → RowAnd reading_of (Inner c) (Own At.LinkInfo c) 2 (info_data link) (info_data link).showing.form rest
  data-row Data.Bridge same rest r = (chosen-row At.LinkInfo c OfData.held (OfData.case Data.Bridge) At.InfoBridge (listed-row At.LinkInfo c At.InfoBridge (λ bytes n p. p)), r)
  data-row Data.Tun same rest r = (chosen-row At.LinkInfo c OfData.held (OfData.case Data.Tun) At.InfoTun (listed-row At.LinkInfo c At.InfoTun (λ bytes n p. p)), r)
  data-row Data.Vlan same rest r = (chosen-row At.LinkInfo c OfData.held (OfData.case Data.Vlan) At.InfoVlan (listed-row At.LinkInfo c At.InfoVlan (λ bytes n p. p)), r)
  data-row Data.Veth same rest r = (chosen-row At.LinkInfo c OfData.held (OfData.case Data.Veth) At.InfoVeth (listed-row At.LinkInfo c At.InfoVeth (λ bytes n p. p)), r)
  data-row Data.Vxlan same rest r = (chosen-row At.LinkInfo c OfData.held (OfData.case Data.Vxlan) At.InfoVxlan (listed-row At.LinkInfo c At.InfoVxlan (λ bytes n p. p)), r)
  data-row Data.Bond same rest r = (chosen-row At.LinkInfo c OfData.held (OfData.case Data.Bond) At.InfoBond (listed-row At.LinkInfo c At.InfoBond (λ bytes n p. p)), r)
  data-row Data.IpVlan same rest r = (chosen-row At.LinkInfo c OfData.held (OfData.case Data.IpVlan) At.InfoIpVlan (listed-row At.LinkInfo c At.InfoIpVlan (λ bytes n p. p)), r)
  data-row Data.IpVtap same rest r = (chosen-row At.LinkInfo c OfData.held (OfData.case Data.IpVtap) At.InfoIpVlan (listed-row At.LinkInfo c At.InfoIpVlan (λ bytes n p. p)), r)
  data-row Data.MacVlan same rest r = (chosen-row At.LinkInfo c OfData.held (OfData.case Data.MacVlan) At.InfoMacVlan (listed-row At.LinkInfo c At.InfoMacVlan (λ bytes n p. p)), r)
  data-row Data.MacVtap same rest r = (chosen-row At.LinkInfo c OfData.held (OfData.case Data.MacVtap) At.InfoMacVlan (listed-row At.LinkInfo c At.InfoMacVlan (λ bytes n p. p)), r)
  data-row Data.GreTap same rest r = (chosen-row At.LinkInfo c OfData.held (OfData.case Data.GreTap) At.InfoGre (listed-row At.LinkInfo c At.InfoGre (λ bytes n p. p)), r)
  data-row Data.GreTap6 same rest r = (chosen-row At.LinkInfo c OfData.held (OfData.case Data.GreTap6) At.InfoGre6 (listed-row At.LinkInfo c At.InfoGre6 (λ bytes n p. p)), r)
  data-row Data.IpIp same rest r = (chosen-row At.LinkInfo c OfData.held (OfData.case Data.IpIp) At.InfoIpTunnel (tunnel-row Data.IpIp same), r)
  data-row Data.Ip6Tnl same rest r = (chosen-row At.LinkInfo c OfData.held (OfData.case Data.Ip6Tnl) At.InfoIpTunnel (tunnel-row Data.Ip6Tnl same), r)
  data-row Data.SitTun same rest r = (chosen-row At.LinkInfo c OfData.held (OfData.case Data.SitTun) At.InfoIpTunnel (tunnel-row Data.SitTun same), r)
  data-row Data.GreTun same rest r = (chosen-row At.LinkInfo c OfData.held (OfData.case Data.GreTun) At.InfoGre (listed-row At.LinkInfo c At.InfoGre (λ bytes n p. p)), r)
  data-row Data.GreTun6 same rest r = (chosen-row At.LinkInfo c OfData.held (OfData.case Data.GreTun6) At.InfoGre6 (listed-row At.LinkInfo c At.InfoGre6 (λ bytes n p. p)), r)
  data-row Data.Vti same rest r = (chosen-row At.LinkInfo c OfData.held (OfData.case Data.Vti) At.InfoVti (listed-row At.LinkInfo c At.InfoVti (λ bytes n p. p)), r)
  data-row Data.Vti6 same rest r = (chosen-row At.LinkInfo c OfData.held (OfData.case Data.Vti6) At.InfoVti (listed-row At.LinkInfo c At.InfoVti (λ bytes n p. p)), r)
  data-row Data.Vrf same rest r = (chosen-row At.LinkInfo c OfData.held (OfData.case Data.Vrf) At.InfoVrf (listed-row At.LinkInfo c At.InfoVrf (λ bytes n p. p)), r)
  data-row Data.Xfrm same rest r = (chosen-row At.LinkInfo c OfData.held (OfData.case Data.Xfrm) At.InfoXfrm (listed-row At.LinkInfo c At.InfoXfrm (λ bytes n p. p)), r)
  data-row Data.Geneve same rest r = (chosen-row At.LinkInfo c OfData.held (OfData.case Data.Geneve) At.InfoGeneve (listed-row At.LinkInfo c At.InfoGeneve (λ bytes n p. p)), r)
  data-row Data.Netkit same rest r = (chosen-row At.LinkInfo c OfData.held (OfData.case Data.Netkit) At.InfoNetkit (listed-row At.LinkInfo c At.InfoNetkit (λ bytes n p. p)), r)
  data-row Data.Erspan same rest r = (chosen-row At.LinkInfo c OfData.held (OfData.case Data.Erspan) At.InfoGre (listed-row At.LinkInfo c At.InfoGre (λ bytes n p. p)), r)
  data-row Data.Erspan6 same rest r = (chosen-row At.LinkInfo c OfData.held (OfData.case Data.Erspan6) At.InfoGre6 (listed-row At.LinkInfo c At.InfoGre6 (λ bytes n p. p)), r)
  data-row Data.Vxcan same rest r = (chosen-row At.LinkInfo c OfData.held (OfData.case Data.Vxcan) At.InfoVeth (listed-row At.LinkInfo c At.InfoVeth (λ bytes n p. p)), r)
  data-row Data.Hsr same rest r = (chosen-row At.LinkInfo c OfData.held (OfData.case Data.Hsr) At.InfoHsr (listed-row At.LinkInfo c At.InfoHsr (λ bytes n p. p)), r)
  data-row Data.Ipoib same rest r = (chosen-row At.LinkInfo c OfData.held (OfData.case Data.Ipoib) At.InfoIpoib (listed-row At.LinkInfo c At.InfoIpoib (λ bytes n p. p)), r)
  data-row Data.MacSec same rest r = (chosen-row At.LinkInfo c OfData.held (OfData.case Data.MacSec) At.InfoMacSec (listed-row At.LinkInfo c At.InfoMacSec (λ bytes n p. p)), r)
  data-row Data.Gtp same rest r = (chosen-row At.LinkInfo c OfData.held (OfData.case Data.Gtp) At.InfoGtp (listed-row At.LinkInfo c At.InfoGtp (λ bytes n p. p)), r)
  data-row Data.Ovpn same rest r = (chosen-row At.LinkInfo c OfData.held (OfData.case Data.Ovpn) At.InfoOvpn (listed-row At.LinkInfo c At.InfoOvpn (λ bytes n p. p)), r)
  data-row Data.Kept same rest r = r

  port-row : (port : InfoPortForm) → RowAnd reading_of (Inner c) (Own At.LinkInfo c) 5 (port_data port) (port_data port).showing.form (Unit {0})
  port-row Port.Bridge = (chosen-row At.LinkInfo c OfPortData.held (OfPortData.case Port.Bridge) At.InfoBridgePort (listed-row At.LinkInfo c At.InfoBridgePort (λ bytes n p. p)), tt)
  port-row Port.Vrf = (chosen-row At.LinkInfo c OfPortData.held (OfPortData.case Port.Vrf) At.InfoVrf (listed-row At.LinkInfo c At.InfoVrf (λ bytes n p. p)), tt)
  port-row Port.Bond = (chosen-row At.LinkInfo c OfPortData.held (OfPortData.case Port.Bond) At.InfoBondPort (listed-row At.LinkInfo c At.InfoBondPort (λ bytes n p. p)), tt)
  port-row Port.Kept = tt

  pub driver-nests : Nests reading_of (Inner c) (Own At.LinkInfo c) (OfInfo.attributes (c.link, c.port))
  driver-nests = table-nests reading_of (Inner c) (Own At.LinkInfo c) (OfInfo.table (c.link, c.port)) (data-row c.link refl _ (port-row c.port))

  tunnel-rows : (kind : OfTunnelFlags.Kind) → NestRows reading_of (Inner c) (Own At.InfoIpTunnel c) OfIpTunnel.later (OfIpTunnel.rows kind).0
  tunnel-rows OfTunnelFlags.ipip = tt
  tunnel-rows OfTunnelFlags.sit = tt
  tunnel-rows OfTunnelFlags.ip6tnl = tt

  tunnel-reading : (kind : Option OfTunnelFlags.Kind) → Nests reading_of (Inner c) (Own At.InfoIpTunnel c) (OfIpTunnel.reading kind)
  tunnel-reading (Some kind) = λ x.
      let rows = (OfIpTunnel.rows kind).0 in
      in-rows reading_of (Inner c) (Own At.InfoIpTunnel c) (family_in OfIpTunnel.later rows) OfIpTunnel.later rows (number_of x.kind) x (tunnel-rows kind)
  tunnel-reading None =
      left-nests reading_of (Inner c) (Own At.InfoIpTunnel c) OfIpTunnel.writing
      (attributes_in OfIpTunnel.flat OfIpTunnel.flat_rows.0 OfIpTunnel.flat-apart) (λ x.
      in-rows reading_of (Inner c) (Own At.InfoIpTunnel c) (family_in OfIpTunnel.flat OfIpTunnel.flat_rows.0) OfIpTunnel.flat OfIpTunnel.flat_rows.0
      (number_of x.kind) x tt)

  pub tunnel-nests : Nests reading_of (Inner c) (Own At.InfoIpTunnel c) (OfIpTunnel.attributes c.link)
  unfolding OfIpTunnel.attributes
  tunnel-nests =
      let kind = OfTunnelFlags.kind_of c.link in
      retold-nests reading_of (Inner c) (Own At.InfoIpTunnel c) (OfIpTunnel.reading kind) (OfIpTunnel.told kind) (OfIpTunnel.told-same kind)
      (tunnel-reading kind)
