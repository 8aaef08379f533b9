-- Which acknowledgements `cake` drops that later ones make needless (linux/pkt_sched.h, CAKE_ACK_*), by the table.
use Rattle.std.specs.Prelude.{ℕ, List, [], ◌∷◌}
use Rattle.std.proofs.Common.{refl}
use Rattle.npr_base.specs.Enumeration.{enumeration}
use Rattle.npr_base.specs.Layout.{Layout, formed, le32}
use Rattle.npr_base.specs.Numbering.{Numbering}
use Rattle.npr_tc_qdiscs.specs.contracts.cake_ack_filter.TcCakeAckFilter.{enum}
use Rattle.npr_tc_qdiscs.specs.declared.cake_ack_filter.TcCakeAckFilter.{TcCakeAckFilter}
use Rattle.npr_tc_qdiscs.specs.declared.cake_ack_filter.TcCakeAckFilter.TheVariants.{None, Filter, Aggressive, Other}

-- in the order of the variants
abbrev pub cake_ack_filter_rows : List (ℕ × TcCakeAckFilter)
cake_ack_filter_rows = (0, None) ∷ (1, Filter) ∷ (2, Aggressive) ∷ []

abbrev pub cake_ack_filters : Numbering ℕ TcCakeAckFilter
cake_ack_filters = enumeration enum cake_ack_filter_rows Other (λ f. f.0) (λ d. refl) refl

-- four bytes, little endian
abbrev pub cake_ack_filter : Layout TcCakeAckFilter
cake_ack_filter = formed le32 cake_ack_filters
