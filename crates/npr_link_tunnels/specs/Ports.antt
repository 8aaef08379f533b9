-- Two ports, one behind the other, two bytes each, big endian (linux/if_link.h, struct ifla_vxlan_port_range and struct
-- ifla_geneve_port_range).
use Rattle.std.specs.Prelude.{ℕ}
use Rattle.npr_base.specs.Fields.{be_two, ◌and◌, fields}
use Rattle.npr_base.specs.Layout.{Layout}

abbrev pub ports : Layout (ℕ × ℕ)
ports = fields (be_two and be_two)
