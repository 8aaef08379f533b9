-- An attribute of a link message is read by its number: the three that the header or a search governs, and those that stand for
-- themselves.
use Rattle.std.specs.Prelude.{◌≢◌, ◌==◌, if◌then◌else◌}
use Rattle.std.specs.declared.alloc.Global.{Global}
use Rattle.std.specs.declared.vec.Vec.{Vec}
use Rattle.std.proofs.Common.{◌≡◌, ℕ, Bool, true, false, List, [], ◌∷◌, map, refl, ap, subst, sym, inl, inr, true≢false}
use Rattle.std.proofs.lemmas.Bool.{ne_eqb}
use Rattle.npr_base.specs.Counts.{Counts}
use Rattle.npr_base.specs.declared.address_family.AddressFamily.{AddressFamily}
use Rattle.npr_base.specs.declared.attribute_set.At.{At}
use Rattle.npr_base.specs.declared.refusal.DecodeError.{DecodeError}
use Rattle.npr_base.specs.EnumTable.{VariantRows, looks_in, has_number}
use Rattle.npr_base.specs.Framing.{Item, number_of}
use Rattle.npr_base.specs.Looks.{Looking, Inside, nothing, looked_through, TakesInside}
use Rattle.npr_base.specs.RowReading.{looks-none}
use Rattle.npr_base.specs.Looking.{looking_inside}
use Rattle.npr_link.specs.AfSpec as OfAfSpec
use Rattle.npr_link.specs.AfSpecInet6 as OfAfSpecInet6
use Rattle.npr_link.specs.AfSpecs.{AfSpecs, Form, as_list, as_bridge, as_bytes, form_of, af_specs, unspec, bridge, unknown}
use Rattle.npr_link.specs.Attribute.{Meaning, meaning, attributes, flat, flat_rows, rows, is_list, FlatReads, IsFlat, FlatFault, FlatLooks, MeansProtoInfos}
use Rattle.npr_link.specs.Attribute.{MeansAfSpecs, MeansInfo}
use Rattle.npr_link.specs.Info as OfInfo
use Rattle.npr_link.specs.InfoList.{info_list, InfoLooks}
use Rattle.npr_link.specs.ProtoInfos as OfProto
use Rattle.npr_link.specs.ProtoInfos.{ProtoInfos, form_of as proto_form_of, proto_infos}
use Rattle.npr_link.specs.declared.af_spec.AfSpecUnspec.{AfSpecUnspec}
use Rattle.npr_link.specs.declared.af_spec_inet6.AfSpecInet6.{AfSpecInet6}
use Rattle.npr_link.specs.declared.attribute.LinkAttribute.{LinkAttribute}
use Rattle.npr_link.specs.declared.info.LinkInfo.{LinkInfo}
use Rattle.npr_link_bridge.specs.AfSpecBridge as OfAfSpecBridge
use Rattle.npr_link_bridge.specs.BridgePort as OfBridgePort
use Rattle.npr_link_bridge.specs.declared.af_spec_bridge.AfSpecBridge.{AfSpecBridge}
use Rattle.npr_link_bridge.specs.declared.bridge_port.InfoBridgePort.{InfoBridgePort}
use denote.Struct.Field.{Field}

-- ---- what the variants that the header governs mean

pub inet6_means : (v : Vec AfSpecInet6 Global)
    → MeansProtoInfos (LinkAttribute.ProtoInfoInet6 v) (OfProto.inet6 (map OfAfSpecInet6.family.meaning v.items))
unfolding MeansProtoInfos
inet6_means v = refl

pub port_means : (v : Vec InfoBridgePort Global)
    → MeansProtoInfos (LinkAttribute.ProtoInfoBridge v) (OfProto.bridge (map OfBridgePort.family.meaning v.items))
unfolding MeansProtoInfos
port_means v = refl

pub whole_means : (x : Item) → MeansProtoInfos (LinkAttribute.ProtoInfoUnknown x) (OfProto.unknown x)
unfolding MeansProtoInfos
whole_means x = refl

pub unspec_means : (v : Vec AfSpecUnspec Global) → MeansAfSpecs (LinkAttribute.AfSpecUnspec v) (unspec (map OfAfSpec.family.meaning v.items))
unfolding MeansAfSpecs
unspec_means v = refl

pub bridge_means : (v : Vec AfSpecBridge Global) → MeansAfSpecs (LinkAttribute.AfSpecBridge v) (bridge (map OfAfSpecBridge.family.meaning v.items))
unfolding MeansAfSpecs
bridge_means v = refl

pub unknown_means : (v : Vec ℕ Global) → MeansAfSpecs (LinkAttribute.AfSpecUnknown v) (unknown v.items)
unfolding MeansAfSpecs
unknown_means v = refl

pub info_means : (v : Vec LinkInfo Global) → MeansInfo (LinkAttribute.LinkInfo v) (map OfInfo.family.meaning v.items)
unfolding MeansInfo
info_means v = refl

-- ---- what an attribute means

is_12 : (n : ℕ) → n ≡ 12 → (n == 12) ≡ true
is_12 n e = ap (λ (k : ℕ). k == 12) e

is_26 : (n : ℕ) → n ≡ 26 → ((n == 12) ≡ false) × ((n == 26) ≡ true)
is_26 n e = (ap (λ (k : ℕ). k == 12) e, ap (λ (k : ℕ). k == 26) e)

is_18 : (n : ℕ) → n ≡ 18 → ((n == 12) ≡ false) × ((n == 26) ≡ false) × ((n == 18) ≡ true)
is_18 n e = (ap (λ (k : ℕ). k == 12) e, ap (λ (k : ℕ). k == 26) e, ap (λ (k : ℕ). k == 18) e)

pub proto_reads : (family : AddressFamily) (x : Item) (a : LinkAttribute) (v : ProtoInfos) → number_of x.kind ≡ 12 → MeansProtoInfos a v
    → (proto_infos (proto_form_of family)).Reads x v → (attributes family).Reads x (meaning a)
unfolding MeansProtoInfos
proto_reads family x a v is means reads =
    subst (λ (m : Meaning). (attributes family).Reads x m) (sym means) (rw (is_12 (number_of x.kind) is) reads)

pub proto_wrong : (family : AddressFamily) (x : Item) (e : DecodeError) → number_of x.kind ≡ 12 → (proto_infos (proto_form_of family)).Faulty x e
    → (attributes family).Faulty x e
proto_wrong family x e is wrong = rw (is_12 (number_of x.kind) is) wrong

pub af_reads : (family : AddressFamily) (x : Item) (a : LinkAttribute) (v : AfSpecs) → number_of x.kind ≡ 26 → MeansAfSpecs a v
    → (af_specs (form_of family)).Reads x.value v → (attributes family).Reads x (meaning a)
unfolding MeansAfSpecs
af_reads family x a v is means reads =
    let n = is_26 (number_of x.kind) is in
    subst (λ (m : Meaning). (attributes family).Reads x m) (sym means) (rw (n.0, n.1) reads)

-- lists and bytes are refused wherever they stand
wrong_at : (form : Form) (x : Item) (at : At) (e : DecodeError) → (af_specs form).Wrong at x.value e → (rows form).0.0.codec.Wrong (rows form).0.0.at x.value e
wrong_at as_list x at e wrong = wrong
wrong_at as_bridge x at e wrong = wrong
wrong_at as_bytes x at e wrong = wrong

pub af_wrong : (family : AddressFamily) (x : Item) (at : At) (e : DecodeError) → number_of x.kind ≡ 26 → (af_specs (form_of family)).Wrong at x.value e
    → (attributes family).Faulty x e
af_wrong family x at e is wrong = let n = is_26 (number_of x.kind) is in rw (n.0, n.1) (wrong_at (form_of family) x at e wrong)

pub info_reads : (family : AddressFamily) (x : Item) (a : LinkAttribute) (v : List OfInfo.Meaning) → number_of x.kind ≡ 18 → MeansInfo a v
    → info_list.Reads x.value v → (attributes family).Reads x (meaning a)
unfolding MeansInfo
info_reads family x a v is means reads =
    let n = is_18 (number_of x.kind) is in
    subst (λ (m : Meaning). (attributes family).Reads x m) (sym means) (rw (n.0, n.1, n.2) reads)

pub info_wrong : (family : AddressFamily) (x : Item) (at : At) (e : DecodeError) → number_of x.kind ≡ 18 → info_list.Wrong at x.value e
    → (attributes family).Faulty x e
info_wrong family x at e is wrong = let n = is_18 (number_of x.kind) is in rw (n.0, n.1, n.2) wrong

-- none of the numbers that stand beside the flat rows
abbrev pub IsFlatNumber : ℕ → Type 0
IsFlatNumber n = (n ≢ 12) × (n ≢ 26) × (n ≢ 18)

flat_in : (family : AddressFamily) (x : Item) (m : Meaning) → IsFlatNumber (number_of x.kind) → FlatReads (number_of x.kind) x m → (attributes family).Reads x m
flat_in family x (inl p) f reads = absurd reads
flat_in family x (inr (inl v)) f reads = absurd reads
flat_in family x (inr (inr (inl v))) f reads = absurd reads
flat_in family x (inr (inr (inr m))) f reads =
    rw (ne_eqb (number_of x.kind) 12 f.0, ne_eqb (number_of x.kind) 26 f.1, ne_eqb (number_of x.kind) 18 f.2) reads

pub flat_reads : (family : AddressFamily) (x : Item) (a : LinkAttribute) → IsFlatNumber (number_of x.kind) → IsFlat (number_of x.kind) x a
    → (attributes family).Reads x (meaning a)
unfolding IsFlat
flat_reads family x a f reads = flat_in family x (meaning a) f reads

pub flat_wrong : (family : AddressFamily) (x : Item) (e : DecodeError) → (number_of x.kind ≢ 12) → (number_of x.kind ≢ 26) → (number_of x.kind ≢ 18)
    → FlatFault (number_of x.kind) x e → (attributes family).Faulty x e
unfolding FlatFault
flat_wrong family x e o p q wrong = rw (ne_eqb (number_of x.kind) 12 o, ne_eqb (number_of x.kind) 26 p, ne_eqb (number_of x.kind) 18 q) wrong

-- ---- the looks that it takes

not_first : (b c : Bool) → (if b then true else c) ≡ false → (b ≡ false) × (c ≡ false)
not_first true c e = absurd (true≢false e)
not_first false c e = (refl, e)

past : (number : ℕ) (i : Inside) (others : Looking Item) (x : Item) (old new : Counts) → (number_of x.kind == number) ≡ false → others.Takes x old new
    → (looking_inside number i others).Takes x old new
past number nothing others x old new e t = t
past number (looked_through looking) others x old new e t = rw e t

here : (number : ℕ) (i : Inside) (others : Looking Item) (x : Item) (old new : Counts) → (number_of x.kind == number) ≡ true
    → (new ≡ old → others.Takes x old new) → TakesInside i x.value old new → (looking_inside number i others).Takes x old new
here number nothing others x old new e none t = none t
here number (looked_through looking) others x old new e none t = rw e t

-- an attribute of a number without a row takes none
quiet : (Fss : List (List Field)) (rs : VariantRows Fss) (x : Item) (old new : Counts) → has_number Fss rs (number_of x.kind) ≡ false → new ≡ old
    → (looks_in Fss rs).Takes x old new
quiet [] rs x old new h is = is
quiet (Fs ∷ []) rs x old new h is = is
quiet (Fs ∷ Gs ∷ Fss) rs x old new h is =
    let n = not_first (number_of x.kind == rs.0.at.number) (has_number (Gs ∷ Fss) rs.1 (number_of x.kind)) h in
    past rs.0.at.number rs.0.codec.members.looks (looks_in (Gs ∷ Fss) rs.1) x old new n.0 (quiet (Gs ∷ Fss) rs.1 x old new n.1 is)

alone_26 : (n : ℕ) → n ≡ 26 → has_number flat flat_rows.0 n ≡ false
alone_26 n e = ap (has_number flat flat_rows.0) e

pub proto_looks : (family : AddressFamily) (x : Item) (old new : Counts) → number_of x.kind ≡ 12
    → (proto_infos (proto_form_of family)).looks.Takes x old new → (attributes family).looks.Takes x old new
proto_looks family x old new is t = rw (is_12 (number_of x.kind) is) t

pub af_looks : (family : AddressFamily) (x : Item) (old new : Counts) → number_of x.kind ≡ 26
    → TakesInside (af_specs (form_of family)).members.looks x.value old new → (attributes family).looks.Takes x old new
af_looks family x old new is t =
    let n = is_26 (number_of x.kind) is in
    rw n.0 (here 26 (af_specs (form_of family)).members.looks _ x old new n.1
    (λ none. past 18 info_list.members.looks (looks_in flat flat_rows.0) x old new (ap (λ (k : ℕ). k == 18) is)
    (quiet flat flat_rows.0 x old new (alone_26 (number_of x.kind) is) none)) t)

pub info_looks : (family : AddressFamily) (x : Item) (old new : Counts) → number_of x.kind ≡ 18 → InfoLooks x.value old new
    → (attributes family).looks.Takes x old new
info_looks family x old new is t =
    let n = is_18 (number_of x.kind) is in
    rw n.0 (past 26 (af_specs (form_of family)).members.looks _ x old new n.1 (rw n.2 t))

pub flat_looks : (family : AddressFamily) (x : Item) (old new : Counts) → (number_of x.kind ≢ 12) → (number_of x.kind ≢ 26) → (number_of x.kind ≢ 18)
    → FlatLooks x old new → (attributes family).looks.Takes x old new
unfolding FlatLooks
flat_looks family x old new o p q t =
    rw (ne_eqb (number_of x.kind) 12 o) (past 26 (af_specs (form_of family)).members.looks _ x old new (ne_eqb (number_of x.kind) 26 p)
    (past 18 info_list.members.looks (looks_in flat flat_rows.0) x old new (ne_eqb (number_of x.kind) 18 q) t))

-- none is taken where no list stands
pub no_looks : (x : Item) (c : Counts) → (number_of x.kind ≢ 22) → (number_of x.kind ≢ 24) → (number_of x.kind ≢ 25) → (number_of x.kind ≢ 43)
    → (number_of x.kind ≢ 52) → (number_of x.kind ≢ 55) → (number_of x.kind ≢ 65) → FlatLooks x c c
unfolding FlatLooks
no_looks x c n s t o p q r =
    looks-none is_list flat flat_rows.0 refl x c
    (rw (
      ne_eqb (number_of x.kind) 22 n,
      ne_eqb (number_of x.kind) 24 s,
      ne_eqb (number_of x.kind) 25 t,
      ne_eqb (number_of x.kind) 43 o,
      ne_eqb (number_of x.kind) 52 p,
      ne_eqb (number_of x.kind) 55 q,
      ne_eqb (number_of x.kind) 65 r,
    ))
