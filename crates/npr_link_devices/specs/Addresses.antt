-- Addresses as a list of attributes whose kinds are not looked at: the value of each is one address. They are written with the
-- numbers 0, 1, 2 and so on.
--     octets_of                      what an address is seen as
--     AreAddresses, AddressesFault   bytes are addresses, or the first fault in them
--     AddressesLooks                 the looks that reading them takes
--     addresses                      the codec
use Rattle.std.specs.Prelude.{◌≡◌, ℕ, true, List, length}
use Rattle.npr_base.specs.declared.attribute_set.At.{At}
use Rattle.npr_base.specs.declared.refusal.DecodeError.{DecodeError}
use Rattle.npr_base.specs.Codec.{Codec}
use Rattle.npr_base.specs.Counts.{Counts}
use Rattle.npr_base.specs.Layout.{octets}
use Rattle.npr_base.specs.lemmas.List.{ReadsList-one, FirstFault-excludes, ReadsList-known}
use Rattle.npr_base.specs.Lists.{AllOf, ReadsList, FirstFault, is_short, list_members, overlong}
use Rattle.npr_base.specs.lemmas.LookBounds.{list-bounded, list-saw}
use Rattle.npr_base.specs.Family.{list_looking}
use Rattle.npr_base.specs.Looks.{ListLooks, looked_through}
use Rattle.npr_base.specs.Looking.{no_looking}
use Rattle.npr_base.specs.Refusal.{no_place}
use Rattle.npr_base.specs.Showing.{shows_inside}
use Rattle.npr_link_devices.specs.Targets.{IsTarget, IsNoTarget, address_bytes, target_reading, targets-read, targets-grow}

-- an address by its octets, as contracts see one
abbrev pub octets_of : List ℕ → List ℕ
octets_of address = address

abbrev pub AreAddresses : ℕ → List ℕ → List (List ℕ) → Type 0
AreAddresses size bytes addresses = ReadsList (IsTarget size) bytes addresses

abbrev pub AddressesFault : ℕ → At → List ℕ → DecodeError → Type 0
AddressesFault size at bytes e = FirstFault (IsTarget size) (IsNoTarget size at) bytes e

-- wherever they stand
abbrev pub AddressesLooks : ℕ → List ℕ → Counts → Counts → Type 0
AddressesLooks size bytes old new = ListLooks (IsTarget size) (IsNoTarget size no_place) no_looking.Takes bytes old new

-- addresses of so many octets, which an attribute can hold
abbrev pub addresses : (size : ℕ) → is_short size ≡ true → Codec (List (List ℕ))
addresses size short = record {
  Reads = AreAddresses size;
  Wrong = AddressesFault size;
  encode = address_bytes;
  unfit = λ kind xs. overlong (length (address_bytes xs));
  Holds = AllOf (octets size).Holds;
  members = record {
    count = list_members (λ a. 0);
    looks = looked_through (list_looking (target_reading size));
    bounded = list-bounded (target_reading size);
    saw = list-saw (target_reading size);
  };
  one_reading = λ bytes xs ys p q. ReadsList-one (IsTarget size) (target_reading size).one_reading bytes xs ys p q;
  no_fault = λ at bytes xs e p q. FirstFault-excludes (IsTarget size) (IsNoTarget size at) (λ x a f r w. w.0 r.0) bytes e xs q p;
  reads_holds = λ bytes xs is p. ReadsList-known (octets size).Holds (IsTarget size) (target_reading size).reads_coherent bytes xs is p;
  reads_back = λ kind xs all fits. targets-read size short 0 xs all;
  grows = λ bytes xs is p. targets-grow size bytes xs is p;
  showing = shows_inside;
}
