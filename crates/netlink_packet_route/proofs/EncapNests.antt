-- The lists in what an encapsulation holds, by its type, and the values there that have a reader of their own.
use Rattle.std.specs.Prelude.{◌≡◌, ℕ, ◌==◌, ◌||◌, Bool, true, false, if◌then◌else◌}
use Rattle.std.proofs.Common.{refl, sym, subst, inl, inr}
use Rattle.std.proofs.lemmas.Bool.{eqb-false, eqb-true}
use Rattle.npr_base.specs.Codec.{Codec}
use Rattle.npr_base.specs.EnumTable.{EnumTable}
use Rattle.npr_base.specs.Family.{Writing, Reading}
use Rattle.npr_base.specs.Framing.{Item, number_of}
use Rattle.npr_base.specs.ListCodec.{list_of}
use Rattle.npr_base.specs.Nesting.{Opened, Nests, ListRow}
use Rattle.npr_base.proofs.NestLaws.{plain-list, opened-by, table-nests}
use Rattle.npr_base.specs.declared.attribute_set.At.{At}
use Rattle.npr_base.specs.declared.attribute_set.AttributeSet.TheVariants.{Opt}
use Rattle.npr_base.specs.declared.value.Form.{Form}
use Rattle.npr_encapsulation.specs.Encapsulation as OfEncap
use Rattle.npr_encapsulation.specs.TunnelOptions as OfOption
use Rattle.npr_base.specs.EnumTable.{other_in}
use Rattle.npr_base.specs.Tables.{Meanings, attributes_of}
use Rattle.npr_base.specs.Value.{Shown}
use Rattle.npr_base.specs.declared.value.Form.TheVariants.{Inside}
use Rattle.npr_srh.specs.Ioam6Tunnel as OfIoam6
use Rattle.npr_srh.specs.Keeping.{IsQuiet, IsRowOf, IsUnreadable, ReadsOrKept, keeping_in}
use Rattle.npr_srh.specs.Rpl.{rpl}
use Rattle.npr_srh.specs.RplTunnel as OfRpl
use Rattle.npr_srh.specs.Seg6Local.{local}
use Rattle.npr_srh.specs.Seg6LocalTunnel as OfSeg6Local
use Rattle.npr_srh.specs.Seg6Mode.{modes}
use Rattle.npr_srh.specs.Seg6Tunnel as OfSeg6
use Rattle.npr_srh.specs.Trace.{trace}
use Rattle.npr_encapsulation.specs.IpTunnel as OfIp
use Rattle.npr_encapsulation.specs.MplsTunnel as OfMpls
use Rattle.npr_encapsulation.specs.Wrapped.{kept, wrapped}
use Rattle.npr_encapsulation.specs.XfrmTunnel as OfXfrm
use Rattle.npr_encapsulation.specs.declared.encap_type.RouteLwEnCapType.{RouteLwEnCapType}
use Rattle.npr_encapsulation.specs.declared.encap_type.RouteLwEnCapType.TheVariants as Tunnel
use denote.Enum.Declared.{Record}
use Rattle.netlink_packet_route.specs.Nests.{Inner, has_header, nest_in, reading_of}
use Rattle.netlink_packet_route.specs.declared.context.Context.{Context}

module _ (c : Context) where
  -- ---- of an encapsulation, by its type

  abbrev OwnIn : RouteLwEnCapType → ℕ → Type 0
  OwnIn type k = (has_header type k || false) ≡ true

  module _ (type : RouteLwEnCapType) where
    wrapped-nests : {M W : Type 0} {v : Writing M} (f : Reading v) (made : M → W) (w : Writing W) (view : Item → W → Shown)
        (same : (m : M) → w.shape (made m) ≡ v.shape m) (counted : (m : M) → w.members (made m) ≡ v.members m)
        (seen : (x : Item) (m : M) → view x (made m) ≡ f.seeing.sees x m) → Nests reading_of (Inner c) (OwnIn type) f
        → Nests reading_of (Inner c) (OwnIn type) (wrapped f made w view same counted seen)
    wrapped-nests {M} {W} f made w view same counted seen h = λ x.
        opened-by reading_of (Inner c) (OwnIn type) (number_of x.kind) (f.seeing.form_at (number_of x.kind)).1 (f.Reads x)
        (λ (n : W). (m : M) × f.Reads x m × (n ≡ made m)) (f.Faulty x) (f.Faulty x) x.value (λ n p. (p.0, p.1)) (λ m p. (made m, (m, p, refl)))
        (λ e bad. bad) (h x)

    kept-down : {N : Record} (t : EnumTable N) {V : Type 0} (row : ℕ) (codec : Codec V) (x : Item) → (number_of x.kind == row) ≡ false
        → (m : Meanings t) → ReadsOrKept (attributes_of t) (other_in N.parts t.rows) row codec x m → (n : Meanings t) × (attributes_of t).Reads x n
    kept-down t row codec x other m (inl p) = (m, p)
    kept-down t row codec x other m (inr k) = absurd (eqb-false (number_of x.kind) row other k.unreadable.number)

    kept-or : {N : Record} (t : EnumTable N) {V : Type 0} (row : ℕ) (codec : Codec V) (x : Item) (b : Bool) (form : At × Form)
        → (number_of x.kind == row) ≡ b → OwnIn type row
        → Opened reading_of (Inner c) (OwnIn type) (number_of x.kind) form.1 ((attributes_of t).Reads x) ((attributes_of t).Faulty x) x.value
        → Opened reading_of (Inner c) (OwnIn type) (number_of x.kind) (if b then (form.0, Inside) else form).1
        (ReadsOrKept (attributes_of t) (other_in N.parts t.rows) row codec x)
        (λ e. (attributes_of t).Faulty x e × (IsUnreadable row codec.Reads x → ⊥)) x.value
    kept-or t row codec x true form same own o = subst (OwnIn type) (sym (eqb-true (number_of x.kind) row same)) own
    kept-or {N} t {V} row codec x false form other own o =
        opened-by reading_of (Inner c) (OwnIn type) (number_of x.kind) form.1 ((attributes_of t).Reads x)
        (ReadsOrKept (attributes_of t) (other_in N.parts t.rows) row codec x) ((attributes_of t).Faulty x)
        (λ e. (attributes_of t).Faulty x e × (IsUnreadable row codec.Reads x → ⊥)) x.value (kept-down t row codec x other) (λ m p. (m, inl p))
        (λ e bad. (bad, λ u. eqb-false (number_of x.kind) row other u.number)) o

    keeping-nests : {N : Record} (t : EnumTable N) {V : Type 0} (row : ℕ) (codec : Codec V) (here : IsRowOf (attributes_of t) row codec)
        (quiet : IsQuiet (attributes_of t)) → OwnIn type row → Nests reading_of (Inner c) (OwnIn type) (attributes_of t)
        → Nests reading_of (Inner c) (OwnIn type) (keeping_in t row codec here quiet)
    keeping-nests {N} t {V} row codec here quiet own h = λ x.
        kept-or t row codec x (number_of x.kind == row) ((attributes_of t).seeing.form_at (number_of x.kind)) refl own (h x)

    options-row : ListRow reading_of (Inner c) (OwnIn type) (list_of Opt OfOption.attributes) Opt 0
    options-row = plain-list reading_of (Inner c) (OwnIn type) Opt (nest_in Opt c) (λ bytes n p. p)

  pub encap-nests : (type : RouteLwEnCapType) → Nests reading_of (Inner c) (OwnIn type) (OfEncap.encapsulation type)
  unfolding OfEncap.encapsulation_by OfMpls.attributes OfSeg6.attributes_by OfIp.attributes OfIp.attributes6
      OfIoam6.attributes OfRpl.attributes OfSeg6Local.attributes OfXfrm.attributes
  encap-nests Tunnel.Mpls =
      wrapped-nests Tunnel.Mpls OfMpls.attributes OfEncap.mpls OfEncap.writing (OfEncap.member_shown modes) (λ m. refl) (λ m. refl) (λ x m. refl)
      (table-nests reading_of (Inner c) (OwnIn Tunnel.Mpls) OfMpls.table tt)
  encap-nests Tunnel.Seg6 =
      wrapped-nests Tunnel.Seg6 (OfSeg6.attributes_by modes) OfEncap.seg6 OfEncap.writing (OfEncap.member_shown modes) (λ m. refl) (λ m. refl)
      (λ x m. refl) (table-nests reading_of (Inner c) (OwnIn Tunnel.Seg6) (OfSeg6.table modes) (refl, tt))
  encap-nests Tunnel.Ip =
      wrapped-nests Tunnel.Ip OfIp.attributes OfEncap.ip OfEncap.writing (OfEncap.member_shown modes) (λ m. refl) (λ m. refl) (λ x m. refl)
      (table-nests reading_of (Inner c) (OwnIn Tunnel.Ip) OfIp.table (options-row Tunnel.Ip, tt))
  encap-nests Tunnel.Ip6 =
      wrapped-nests Tunnel.Ip6 OfIp.attributes6 OfEncap.ip6 OfEncap.writing (OfEncap.member_shown modes) (λ m. refl) (λ m. refl) (λ x m. refl)
      (table-nests reading_of (Inner c) (OwnIn Tunnel.Ip6) OfIp.table6 (options-row Tunnel.Ip6, tt))
  encap-nests Tunnel.Ioam6 =
      wrapped-nests Tunnel.Ioam6 OfIoam6.attributes OfEncap.ioam6 OfEncap.writing (OfEncap.member_shown modes) (λ m. refl) (λ m. refl) (λ x m. refl)
      (keeping-nests Tunnel.Ioam6 OfIoam6.table 3 trace OfIoam6.here (λ x old new looks. looks) refl
      (table-nests reading_of (Inner c) (OwnIn Tunnel.Ioam6) OfIoam6.table (refl, tt)))
  encap-nests Tunnel.Rpl =
      wrapped-nests Tunnel.Rpl OfRpl.attributes OfEncap.rpl OfEncap.writing (OfEncap.member_shown modes) (λ m. refl) (λ m. refl) (λ x m. refl)
      (keeping-nests Tunnel.Rpl OfRpl.table 1 rpl OfRpl.here (λ x old new looks. looks) refl
      (table-nests reading_of (Inner c) (OwnIn Tunnel.Rpl) OfRpl.table (refl, tt)))
  encap-nests Tunnel.Seg6Local =
      wrapped-nests Tunnel.Seg6Local OfSeg6Local.attributes OfEncap.seg6_local OfEncap.writing (OfEncap.member_shown modes) (λ m. refl) (λ m. refl)
      (λ x m. refl)
      (keeping-nests Tunnel.Seg6Local OfSeg6Local.table 2 local OfSeg6Local.here (λ x old new looks. looks) refl
      (table-nests reading_of (Inner c) (OwnIn Tunnel.Seg6Local) OfSeg6Local.table (refl, tt)))
  encap-nests Tunnel.Xfrm =
      wrapped-nests Tunnel.Xfrm OfXfrm.attributes OfEncap.xfrm OfEncap.writing (OfEncap.member_shown modes) (λ m. refl) (λ m. refl) (λ x m. refl)
      (table-nests reading_of (Inner c) (OwnIn Tunnel.Xfrm) OfXfrm.table tt)
  encap-nests type =
      wrapped-nests type kept OfEncap.other OfEncap.writing (OfEncap.member_shown modes) (λ x. refl) (λ x. refl) (λ x m. refl) (λ x. tt)
