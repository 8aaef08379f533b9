-- What happened to a link, by the table: `IFLA_EVENT_*` of `linux/if_link.h`.
use Rattle.std.specs.Prelude.{ℕ, List, [], ◌∷◌}
use Rattle.std.proofs.Common.{refl}
use Rattle.npr_base.specs.Layout.{Layout, le32, formed}
use Rattle.npr_base.specs.Numbering.{Numbering}
use Rattle.npr_base.specs.Enumeration.{enumeration}
use Rattle.npr_link.specs.declared.link_event.LinkEvent.{LinkEvent}
use Rattle.npr_link.specs.declared.link_event.LinkEvent.TheVariants.{None, Reboot, Features, BondingFailover, NotifyPeers, IgmpResend, BondingOptions, Other}
use Rattle.npr_link.specs.contracts.link_event.LinkEvent.{enum}

-- in the order of the variants
abbrev pub link_event_rows : List (ℕ × LinkEvent)
link_event_rows =
    (0, None) ∷ (1, Reboot) ∷ (2, Features) ∷ (3, BondingFailover) ∷ (4, NotifyPeers) ∷ (5, IgmpResend) ∷ (6, BondingOptions) ∷ []

-- the value that a number reads as, and the number that one is written as
abbrev pub link_events : Numbering ℕ LinkEvent
link_events = enumeration enum link_event_rows Other (λ f. f.0) (λ d. refl) refl

-- how one is read and written
abbrev pub link_event : Layout LinkEvent
link_event = formed le32 link_events
