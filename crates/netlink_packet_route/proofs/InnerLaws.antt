-- What names a list of a set that rests on no more than the context.
use Rattle.std.specs.Prelude.{◌≡◌, ◌≢◌, ℕ, List}
use Rattle.std.proofs.Common.{refl}
use Rattle.npr_base.specs.declared.attribute_set.AttributeSet.{AttributeSet}
use Rattle.npr_base.specs.declared.attribute_set.AttributeSet.TheVariants.{LinkInfo, TcAction}
use Rattle.netlink_packet_route.specs.Nests.{Inner, listed, nest_in}
use Rattle.netlink_packet_route.specs.declared.context.Context.{Context}
use Rattle.netlink_packet_route.specs.declared.nests.Nest.{Nest}

pub inner-plain : (c : Context) (set : AttributeSet) (bytes : List ℕ) (n : Nest) → set ≢ LinkInfo → set ≢ TcAction → n ≡ nest_in (listed set) c → Inner c set bytes n
inner-plain c LinkInfo bytes n link action is = absurd (link refl)
inner-plain c TcAction bytes n link action is = absurd (action refl)
inner-plain c set bytes n link action is = is
