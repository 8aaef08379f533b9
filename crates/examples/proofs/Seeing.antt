-- What is seen of an address message is what its attributes mean.
use Rattle.std.specs.Option.{option_or}
use Rattle.std.specs.Bool.{MatchBool}
use Rattle.std.specs.Prelude.{◌==◌}
use Rattle.std.proofs.Common.{◌≡◌, ℕ, List, [], ◌∷◌, Bool, true, false, Some, None, inl, inr, refl, sym, ap, subst, ◌∙◌}
use Rattle.netlink_packet_route.specs.AddressAttribute.{family, attributes, table}
use Rattle.netlink_packet_route.specs.Framing.{Item, number_of}
use Rattle.netlink_packet_route.specs.PlaceLaws.{place-number}
use Rattle.netlink_packet_route.specs.Value.{Shown, is_address, shown}
use Rattle.netlink_packet_route.specs.Values.{SeenAs}
use Rattle.netlink_packet_route.specs.declared.framing.At.{At}
use Rattle.netlink_packet_route.specs.declared.framing.Value.{Value}
use Rattle.netlink_packet_route.specs.declared.framing.Value.TheVariants as Of
use Rattle.netlink_packet_route.specs.declared.net.IpAddr.{IpAddr}
use Rattle.examples.specs.OneByOne.{last_of}
use Rattle.examples.specs.Seen.{address_of, seen_address}

same_address : (a b : IpAddr) → is_address a ≡ is_address b → a ≡ b
same_address a b e = cc

-- a value of the number 1, by what it is
seen-one : (at : At) (v : Value) (a : _) → (at.number == 1) ≡ true → shown v ≡ is_address a → seen_address (at, v) ≡ Some a
seen-one at (Of.Address b) a one is = rw one (ap (λ (c : IpAddr). Some c) (same_address b a is))
seen-one at v a one is = absurd (cc)

-- and one of another number
seen-other : (at : At) (v : Value) → (at.number == 1) ≡ false → seen_address (at, v) ≡ None
seen-other at (Of.Address b) other = rw other refl
seen-other at v other = refl

one-or : {P Q R : Type 0} (b : Bool) → (b ≡ true → P → R) → (b ≡ false → Q → R) → MatchBool b P Q → R
one-or true f g p = f refl p
one-or false f g p = g refl p

-- the place of a value has the number of its attribute
numbered : (x : Item) (at : At) → at ≡ (attributes.seeing.form_at (number_of x.kind)).0 → at.number ≡ number_of x.kind
numbered x at is = ap (λ (a : At). a.number) is ∙ place-number table (number_of x.kind)

seen-means : (x : Item) (m : family.Meaning) (v : At × Value) → attributes.Reads x m → v.0 ≡ (attributes.seeing.form_at (number_of x.kind)).0
    → shown v.1 ≡ attributes.seeing.sees x m → seen_address v ≡ address_of m
seen-means x (inl a) v reads at is = one-or (number_of x.kind == 1)
    (λ one read. seen-one v.0 v.1 a (subst (λ (k : ℕ). (k == 1) ≡ true) (sym (numbered x v.0 at)) one) is) (λ other none. absurd none) reads
seen-means x (inr m) v reads at is = one-or (number_of x.kind == 1) (λ one none. absurd none)
    (λ other read. seen-other v.0 v.1 (subst (λ (k : ℕ). (k == 1) ≡ false) (sym (numbered x v.0 at)) other)) reads

pub seen-last : (vs : List (At × Value)) (bs : List ℕ) (ms : List family.Meaning) → SeenAs attributes bs vs ms → last_of seen_address vs ≡ last_of address_of ms
seen-last [] bs [] seen = refl
seen-last [] bs (m ∷ ms) seen = absurd seen
seen-last (v ∷ vs) bs [] seen = absurd seen
seen-last (v ∷ vs) bs (m ∷ ms) (x, more, front, reads, at, is, rest) =
    ap (λ o. option_or o (seen_address v)) (seen-last vs more ms rest) ∙ ap (λ o. option_or (last_of address_of ms) o) (seen-means x m v reads at is)
