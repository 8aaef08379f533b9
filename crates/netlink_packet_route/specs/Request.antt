-- What a request for all of a family has in it: a header with the family, each other field at 0, and no attributes. That for all links
-- has one attribute, the mask; that for statistics is a header alone, with the mask of what is asked for, under a type of its own.
use Rattle.std.specs.Prelude.{ℕ, [], ◌∷◌}
use Rattle.npr_base.specs.declared.address_family.AddressFamily.{AddressFamily}
use Rattle.npr_base.specs.Message.{View}
use Rattle.npr_address.specs.Message.{addresses}
use Rattle.npr_link.specs.Attribute.{family as link_family}
use Rattle.npr_link.specs.Message.{links}
use Rattle.npr_link.specs.declared.attribute.LinkAttribute.{LinkAttribute}
use Rattle.npr_link.specs.declared.extent_mask.LinkExtentMask.{LinkExtentMask}
use Rattle.npr_neighbour.specs.Message.{neighbours}
use Rattle.npr_nexthop.specs.Message.{next_hops}
use Rattle.npr_route.specs.Message.{routes}
use Rattle.npr_rule.specs.Message.{rules}
use Rattle.npr_address.specs.AddressLabelMessage.{address_labels}
use Rattle.npr_neighbour.specs.NeighbourTableMessage.{neighbour_tables}
use Rattle.npr_namespace.specs.NetconfMessage.{netconfs}
use Rattle.npr_namespace.specs.NsidMessage.{nsids}
use Rattle.npr_stats.specs.Header.{default_header}
use Rattle.npr_stats.specs.declared.header.StatsHeader.{StatsHeader}

abbrev pub addresses_of : AddressFamily → View addresses
addresses_of family = record { header = record addresses.standard { family = family }; attributes = [] }

abbrev pub routes_of : AddressFamily → View routes
routes_of family = record { header = record routes.standard { address_family = family }; attributes = [] }

abbrev pub rules_of : AddressFamily → View rules
rules_of family = record { header = record rules.standard { family = family }; attributes = [] }

abbrev pub neighbours_of : AddressFamily → View neighbours
neighbours_of family = record { header = record neighbours.standard { family = family }; attributes = [] }

abbrev pub next_hops_of : AddressFamily → View next_hops
next_hops_of family = record { header = record next_hops.standard { family = family }; attributes = [] }

abbrev pub netconfs_of : AddressFamily → View netconfs
netconfs_of family = record { header = record netconfs.standard { family = family }; attributes = [] }

abbrev pub address_labels_of : AddressFamily → View address_labels
address_labels_of family = record { header = record address_labels.standard { family = family }; attributes = [] }

abbrev pub neighbour_tables_of : AddressFamily → View neighbour_tables
neighbour_tables_of family = record { header = record neighbour_tables.standard { family = family }; attributes = [] }

abbrev pub nsids_of_all : View nsids
nsids_of_all = record { header = nsids.standard; attributes = [] }

abbrev pub links_of : LinkExtentMask → View links
links_of mask = record { header = links.standard; attributes = link_family.meaning (LinkAttribute.ExtMask mask) ∷ [] }

-- RTM_GETSTATS (linux/rtnetlink.h)
abbrev pub get_stats : ℕ
get_stats = 94

abbrev pub stats_of : ℕ → StatsHeader
stats_of mask = record default_header { filter_mask = mask }
