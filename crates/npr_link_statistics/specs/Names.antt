-- The fields of structures that grew, by the names that the kernel's numbers have, in the order in which kernels write them.
use Rattle.std.specs.Prelude.{ℕ, ℤ, [], ◌∷◌}
use Rattle.npr_link_statistics.specs.Grown.{Names}
use Rattle.npr_link_statistics.specs.declared.stats.Stats.{Stats}
use Rattle.npr_link_statistics.specs.declared.stats64.Stats64.{Stats64}
use Rattle.npr_link_statistics.specs.declared.inet_devconf.InetDevConf.{InetDevConf}
use Rattle.npr_link_statistics.specs.declared.inet6_devconf.Inet6DevConf.{Inet6DevConf}
use Rattle.npr_link_statistics.specs.declared.inet6_stats.Inet6Stats.{Inet6Stats}
use Rattle.npr_link_statistics.specs.declared.icmp6_stats.Icmp6Stats.{Icmp6Stats}

-- struct rtnl_link_stats of linux/if_link.h
unfoldable pub stats : Names Stats ℕ
stats = record {
  fields =
      Stats.rx_packets ∷ Stats.tx_packets ∷ Stats.rx_bytes ∷ Stats.tx_bytes ∷ Stats.rx_errors ∷ Stats.tx_errors ∷ Stats.rx_dropped ∷
      Stats.tx_dropped ∷ Stats.multicast ∷ Stats.collisions ∷ Stats.rx_length_errors ∷ Stats.rx_over_errors ∷ Stats.rx_crc_errors ∷
      Stats.rx_frame_errors ∷ Stats.rx_fifo_errors ∷ Stats.rx_missed_errors ∷ Stats.tx_aborted_errors ∷ Stats.tx_carrier_errors ∷
      Stats.tx_fifo_errors ∷ Stats.tx_heartbeat_errors ∷ Stats.tx_window_errors ∷ Stats.rx_compressed ∷ Stats.tx_compressed ∷
      Stats.rx_nohandler ∷ [];
  missing = Stats.missing;
  more = λ x. x.more.items;
}

-- struct rtnl_link_stats64 of linux/if_link.h
unfoldable pub stats64 : Names Stats64 ℕ
stats64 = record {
  fields =
      Stats64.rx_packets ∷ Stats64.tx_packets ∷ Stats64.rx_bytes ∷ Stats64.tx_bytes ∷ Stats64.rx_errors ∷ Stats64.tx_errors ∷
      Stats64.rx_dropped ∷ Stats64.tx_dropped ∷ Stats64.multicast ∷ Stats64.collisions ∷ Stats64.rx_length_errors ∷ Stats64.rx_over_errors ∷
      Stats64.rx_crc_errors ∷ Stats64.rx_frame_errors ∷ Stats64.rx_fifo_errors ∷ Stats64.rx_missed_errors ∷ Stats64.tx_aborted_errors ∷
      Stats64.tx_carrier_errors ∷ Stats64.tx_fifo_errors ∷ Stats64.tx_heartbeat_errors ∷ Stats64.tx_window_errors ∷ Stats64.rx_compressed ∷
      Stats64.tx_compressed ∷ Stats64.rx_nohandler ∷ Stats64.rx_otherhost_dropped ∷ [];
  missing = Stats64.missing;
  more = λ x. x.more.items;
}

-- IPV4_DEVCONF_* of linux/ip.h, from 1 on
unfoldable pub inet_devconf : Names InetDevConf ℤ
inet_devconf = record {
  fields =
      InetDevConf.forwarding ∷ InetDevConf.mc_forwarding ∷ InetDevConf.proxy_arp ∷ InetDevConf.accept_redirects ∷
      InetDevConf.secure_redirects ∷ InetDevConf.send_redirects ∷ InetDevConf.shared_media ∷ InetDevConf.rp_filter ∷
      InetDevConf.accept_source_route ∷ InetDevConf.bootp_relay ∷ InetDevConf.log_martians ∷ InetDevConf.tag ∷ InetDevConf.arpfilter ∷
      InetDevConf.medium_id ∷ InetDevConf.noxfrm ∷ InetDevConf.nopolicy ∷ InetDevConf.force_igmp_version ∷ InetDevConf.arp_announce ∷
      InetDevConf.arp_ignore ∷ InetDevConf.promote_secondaries ∷ InetDevConf.arp_accept ∷ InetDevConf.arp_notify ∷
      InetDevConf.accept_local ∷ InetDevConf.src_vmark ∷ InetDevConf.proxy_arp_pvlan ∷ InetDevConf.route_localnet ∷
      InetDevConf.igmpv2_unsolicited_report_interval ∷ InetDevConf.igmpv3_unsolicited_report_interval ∷
      InetDevConf.ignore_routes_with_linkdown ∷ InetDevConf.drop_unicast_in_l2_multicast ∷ InetDevConf.drop_gratuitous_arp ∷
      InetDevConf.bc_forwarding ∷ InetDevConf.arp_evict_nocarrier ∷ [];
  missing = InetDevConf.missing;
  more = λ x. x.more.items;
}

-- DEVCONF_* of linux/ipv6.h
unfoldable pub inet6_devconf : Names Inet6DevConf ℤ
inet6_devconf = record {
  fields =
      Inet6DevConf.forwarding ∷ Inet6DevConf.hoplimit ∷ Inet6DevConf.mtu6 ∷ Inet6DevConf.accept_ra ∷ Inet6DevConf.accept_redirects ∷
      Inet6DevConf.autoconf ∷ Inet6DevConf.dad_transmits ∷ Inet6DevConf.rtr_solicits ∷ Inet6DevConf.rtr_solicit_interval ∷
      Inet6DevConf.rtr_solicit_delay ∷ Inet6DevConf.use_tempaddr ∷ Inet6DevConf.temp_valid_lft ∷ Inet6DevConf.temp_prefered_lft ∷
      Inet6DevConf.regen_max_retry ∷ Inet6DevConf.max_desync_factor ∷ Inet6DevConf.max_addresses ∷ Inet6DevConf.force_mld_version ∷
      Inet6DevConf.accept_ra_defrtr ∷ Inet6DevConf.accept_ra_pinfo ∷ Inet6DevConf.accept_ra_rtr_pref ∷ Inet6DevConf.rtr_probe_interval ∷
      Inet6DevConf.accept_ra_rt_info_max_plen ∷ Inet6DevConf.proxy_ndp ∷ Inet6DevConf.optimistic_dad ∷ Inet6DevConf.accept_source_route ∷
      Inet6DevConf.mc_forwarding ∷ Inet6DevConf.disable_ipv6 ∷ Inet6DevConf.accept_dad ∷ Inet6DevConf.force_tllao ∷
      Inet6DevConf.ndisc_notify ∷ Inet6DevConf.mldv1_unsolicited_report_interval ∷ Inet6DevConf.mldv2_unsolicited_report_interval ∷
      Inet6DevConf.suppress_frag_ndisc ∷ Inet6DevConf.accept_ra_from_local ∷ Inet6DevConf.use_optimistic ∷ Inet6DevConf.accept_ra_mtu ∷
      Inet6DevConf.stable_secret ∷ Inet6DevConf.use_oif_addrs_only ∷ Inet6DevConf.accept_ra_min_hop_limit ∷
      Inet6DevConf.ignore_routes_with_linkdown ∷ Inet6DevConf.drop_unicast_in_l2_multicast ∷ Inet6DevConf.drop_unsolicited_na ∷
      Inet6DevConf.keep_addr_on_down ∷ Inet6DevConf.rtr_solicit_max_interval ∷ Inet6DevConf.seg6_enabled ∷ Inet6DevConf.seg6_require_hmac ∷
      Inet6DevConf.enhanced_dad ∷ Inet6DevConf.addr_gen_mode ∷ Inet6DevConf.disable_policy ∷ Inet6DevConf.accept_ra_rt_info_min_plen ∷
      Inet6DevConf.ndisc_tclass ∷ Inet6DevConf.rpl_seg_enabled ∷ Inet6DevConf.ra_defrtr_metric ∷ Inet6DevConf.ioam6_enabled ∷
      Inet6DevConf.ioam6_id ∷ Inet6DevConf.ioam6_id_wide ∷ Inet6DevConf.ndisc_evict_nocarrier ∷ Inet6DevConf.accept_untracked_na ∷
      Inet6DevConf.accept_ra_min_lft ∷ Inet6DevConf.force_forwarding ∷ [];
  missing = Inet6DevConf.missing;
  more = λ x. x.more.items;
}

-- IPSTATS_MIB_* of linux/snmp.h
unfoldable pub inet6_stats : Names Inet6Stats ℤ
inet6_stats = record {
  fields =
      Inet6Stats.num ∷ Inet6Stats.in_pkts ∷ Inet6Stats.in_octets ∷ Inet6Stats.in_delivers ∷ Inet6Stats.out_forw_datagrams ∷
      Inet6Stats.out_requests ∷ Inet6Stats.out_octets ∷ Inet6Stats.in_hdr_errors ∷ Inet6Stats.in_too_big_errors ∷ Inet6Stats.in_no_routes ∷
      Inet6Stats.in_addr_errors ∷ Inet6Stats.in_unknown_protos ∷ Inet6Stats.in_truncated_pkts ∷ Inet6Stats.in_discards ∷
      Inet6Stats.out_discards ∷ Inet6Stats.out_no_routes ∷ Inet6Stats.reasm_timeout ∷ Inet6Stats.reasm_reqds ∷ Inet6Stats.reasm_oks ∷
      Inet6Stats.reasm_fails ∷ Inet6Stats.frag_oks ∷ Inet6Stats.frag_fails ∷ Inet6Stats.frag_creates ∷ Inet6Stats.in_mcast_pkts ∷
      Inet6Stats.out_mcast_pkts ∷ Inet6Stats.in_bcast_pkts ∷ Inet6Stats.out_bcast_pkts ∷ Inet6Stats.in_mcast_octets ∷
      Inet6Stats.out_mcast_octets ∷ Inet6Stats.in_bcast_octets ∷ Inet6Stats.out_bcast_octets ∷ Inet6Stats.in_csum_errors ∷
      Inet6Stats.in_no_ect_pkts ∷ Inet6Stats.in_ect1_pkts ∷ Inet6Stats.in_ect0_pkts ∷ Inet6Stats.in_ce_pkts ∷ Inet6Stats.reasm_overlaps ∷
      Inet6Stats.out_pkts ∷ [];
  missing = Inet6Stats.missing;
  more = λ x. x.more.items;
}

-- ICMP6_MIB_* of linux/snmp.h
unfoldable pub icmp6_stats : Names Icmp6Stats ℤ
icmp6_stats = record {
  fields =
      Icmp6Stats.num ∷ Icmp6Stats.in_msgs ∷ Icmp6Stats.in_errors ∷ Icmp6Stats.out_msgs ∷ Icmp6Stats.out_errors ∷ Icmp6Stats.csum_errors ∷
      Icmp6Stats.rate_limit_host ∷ [];
  missing = Icmp6Stats.missing;
  more = λ x. x.more.items;
}
