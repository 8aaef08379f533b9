-- An attribute of a tunnel of IP is read by the row of its number: the flags, which the kind governs, and what stands for itself.
use Rattle.std.proofs.Common.{◌≡◌, ℕ, true, false, Option, Some, None, refl, ap, subst, sym, inl, inr}
use Rattle.std.proofs.lemmas.Bool.{ne_eqb}
use Rattle.std.specs.Prelude.{◌==◌}
use Rattle.npr_base.specs.Counts.{Counts}
use Rattle.npr_base.specs.EnumTable.{ReadsIn, other_in}
use Rattle.npr_base.specs.Framing.{Item, number_of}
use Rattle.npr_base.specs.declared.refusal.DecodeError.{DecodeError}
use Rattle.npr_link_tunnels.specs.IpTunnel.{Meaning, meaning, attributes, reading, flat, flat_rows, FlatReads, IsFlat, FlatFault, HasFlags, FlagsFault}
use Rattle.npr_link_tunnels.specs.TunnelFlags.{Kind, kind_of}
use Rattle.npr_link_tunnels.specs.declared.form.InfoForm.{InfoForm}
use Rattle.npr_link_tunnels.specs.declared.ip_tunnel.InfoIpTunnel.{InfoIpTunnel}

is_8 : (n : ℕ) → n ≡ 8 → (n == 8) ≡ true
is_8 n e = ap (λ (k : ℕ). k == 8) e

-- no row has the number of the flags but theirs
kept_reads : (n : ℕ) (x : Item) → n ≡ 8 → ReadsIn flat flat_rows.0 n x (other_in flat flat_rows.0 x)
kept_reads n x e = subst (λ (k : ℕ). ReadsIn flat flat_rows.0 k x (other_in flat flat_rows.0 x)) (sym e) refl

flags_in_reading : (kind : Option Kind) (x : Item) (a : InfoIpTunnel) → number_of x.kind ≡ 8 → HasFlags kind x a → (reading kind).Reads x (meaning a)
flags_in_reading (Some kind) x a is has =
    subst (λ (m : Meaning). (reading (Some kind)).Reads x m) (sym has.2) (rw (is_8 (number_of x.kind) is) has.1)
flags_in_reading None x a is has = subst (λ (m : Meaning). (reading None).Reads x m) (sym has) (kept_reads (number_of x.kind) x is)

pub flags_read : (form : InfoForm) (x : Item) (a : InfoIpTunnel) → number_of x.kind ≡ 8 → HasFlags (kind_of form) x a
    → (attributes form).Reads x (meaning a)
unfolding attributes
flags_read form x a is has = flags_in_reading (kind_of form) x a is has

wrong_in_reading : (kind : Option Kind) (x : Item) (e : DecodeError) → number_of x.kind ≡ 8 → FlagsFault kind x e → (reading kind).Faulty x e
wrong_in_reading (Some kind) x e is wrong = rw (is_8 (number_of x.kind) is) wrong
wrong_in_reading None x e is wrong = absurd wrong

pub flags_wrong : (form : InfoForm) (x : Item) (e : DecodeError) → number_of x.kind ≡ 8 → FlagsFault (kind_of form) x e → (attributes form).Faulty x e
unfolding attributes
flags_wrong form x e is wrong = wrong_in_reading (kind_of form) x e is wrong

flat_in_reading : (kind : Option Kind) (x : Item) (m : Meaning) → (number_of x.kind == 8) ≡ false
    → FlatReads (number_of x.kind) x m → (reading kind).Reads x m
flat_in_reading kind x (inl flags) p reads = absurd reads
flat_in_reading (Some kind) x (inr m) p reads = rw p reads
flat_in_reading None x (inr m) p reads = reads

pub flat_read : (form : InfoForm) (x : Item) (a : InfoIpTunnel) → (number_of x.kind ≡ 8 → ⊥) → IsFlat (number_of x.kind) x a
    → (attributes form).Reads x (meaning a)
unfolding attributes IsFlat
flat_read form x a p reads = flat_in_reading (kind_of form) x (meaning a) (ne_eqb (number_of x.kind) 8 p) reads

fault_in_reading : (kind : Option Kind) (x : Item) (e : DecodeError) → (number_of x.kind == 8) ≡ false
    → FlatFault (number_of x.kind) x e → (reading kind).Faulty x e
unfolding FlatFault
fault_in_reading (Some kind) x e p wrong = rw p wrong
fault_in_reading None x e p wrong = wrong

pub flat_wrong : (form : InfoForm) (x : Item) (e : DecodeError) → (number_of x.kind ≡ 8 → ⊥)
    → FlatFault (number_of x.kind) x e → (attributes form).Faulty x e
unfolding attributes
flat_wrong form x e p wrong = fault_in_reading (kind_of form) x e (ne_eqb (number_of x.kind) 8 p) wrong

none_in_reading : (kind : Option Kind) (x : Item) (counts : Counts) → (reading kind).looks.Takes x counts counts
none_in_reading (Some kind) x counts = refl
none_in_reading None x counts = refl

pub no_looks : (form : InfoForm) (x : Item) (counts : Counts) → (attributes form).looks.Takes x counts counts
unfolding attributes
no_looks form x counts = none_in_reading (kind_of form) x counts
