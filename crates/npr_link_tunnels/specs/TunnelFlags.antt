-- The flags of a tunnel of IP (linux/if_tunnel.h, IFLA_IPTUN_FLAGS): which they are follows from the kind of the link.
use Rattle.std.specs.Prelude.{◌≡◌, ℕ, List, Option, Some, None}
use Rattle.std.proofs.Common.{refl}
use Rattle.npr_base.specs.Codec.{Codec, exactly}
use Rattle.npr_base.specs.Layout.{le16}
use Rattle.npr_base.specs.Value.{Shown}
use Rattle.npr_base.specs.VariantCodec.{variant, written_alike}
use Rattle.npr_base.specs.declared.value.Form.{Form}
use Rattle.npr_base.specs.declared.value.Form.TheVariants.{Raw}
use Rattle.npr_link_tunnels.specs.Ip6TunnelFlags as OfIp6
use Rattle.npr_link_tunnels.specs.declared.form.InfoForm.{InfoForm}
use Rattle.npr_link_tunnels.specs.declared.form.InfoForm.TheVariants.{IpIp, SitTun, Ip6Tnl}
use Rattle.npr_link_tunnels.specs.declared.ip6_tunnel_flags.Ip6TunnelFlags.{Ip6TunnelFlags}

pub data Flags : Type 0 where
  ipv4_flags : ℕ → Flags
  sit_flags : ℕ → Flags
  ipv6_flags : Ip6TunnelFlags → Flags

-- the kinds whose data have flags
pub data Kind : Type 0 where
  ipip : Kind
  sit : Kind
  ip6tnl : Kind

abbrev pub kind_of : InfoForm → Option Kind
kind_of IpIp = Some ipip
kind_of SitTun = Some sit
kind_of Ip6Tnl = Some ip6tnl
kind_of form = None

-- the bytes that are written
abbrev pub flags_bytes : Flags → List ℕ
flags_bytes (ipv4_flags n) = le16.encode n
flags_bytes (sit_flags n) = le16.encode n
flags_bytes (ipv6_flags flags) = OfIp6.ip6_tunnel_flags.encode flags

-- what is seen of them in these bytes
abbrev pub flags_shown : List ℕ → Flags → Shown
flags_shown b (ipv4_flags n) = le16.sees b n
flags_shown b (sit_flags n) = le16.sees b n
flags_shown b (ipv6_flags flags) = OfIp6.ip6_tunnel_flags.sees b flags

-- two bytes, or four
abbrev pub flags_by : Kind → Codec Flags
flags_by ipip = variant (exactly le16) ipv4_flags flags_bytes flags_shown (λ n. refl) (λ n. refl) (λ b n. refl)
flags_by sit = variant (exactly le16) sit_flags flags_bytes flags_shown (λ n. refl) (λ n. refl) (λ b n. refl)
flags_by ip6tnl = variant (exactly OfIp6.ip6_tunnel_flags) ipv6_flags flags_bytes flags_shown (λ f. refl) (λ f. refl) (λ b f. refl)

pub flags-alike : (kind : Kind) → ((flags_by kind).encode ≡ flags_bytes) × ((x : Flags) → (flags_by kind).unfit 0 x ≡ None)
flags-alike ipip = (refl, λ x. refl)
flags-alike sit = (refl, λ x. refl)
flags-alike ip6tnl = (refl, λ x. refl)

abbrev pub flags_in : Kind → Codec Flags
flags_in = written_alike flags_by flags_bytes flags-alike

-- how they are read without memory: under another kind they have no row
abbrev pub flags_form : Option Kind → Form
flags_form (Some kind) = (flags_in kind).showing.form
flags_form None = Raw
