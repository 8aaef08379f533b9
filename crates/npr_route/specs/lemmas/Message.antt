-- A route message is read under the type that its list is searched for.
use Rattle.std.proofs.Common.{ℕ, List, map, sym, ap, subst, ◌∙◌}
use Rattle.npr_base.specs.lemmas.FirstTold.{governs-one, searched}
use Rattle.npr_base.specs.Lists.{ReadsList}
use Rattle.npr_base.specs.Message.{IsUnder}
use Rattle.npr_encapsulation.specs.declared.encap_type.RouteLwEnCapType.{RouteLwEnCapType}
use Rattle.npr_encapsulation.specs.declared.encap_type.RouteLwEnCapType.TheVariants.{None as NoEncapsulation}
use Rattle.npr_route.specs.FlatAttribute.{Context}
use Rattle.npr_route.specs.AttributeView.{family}
use Rattle.npr_route.specs.Governing.{item_type, Governs, Searches}
use Rattle.npr_route.specs.Message.{routes, IsContext, SearchesIt}
use Rattle.npr_route.specs.declared.header.RouteHeader.{RouteHeader}

under_type : (h : RouteHeader) (bytes : List ℕ) (type : RouteLwEnCapType) → Governs NoEncapsulation bytes type
    → IsUnder routes family h bytes (h.address_family, h.kind, type) (IsContext h bytes) (Searches NoEncapsulation bytes type)
under_type h bytes type governs = record {
  alone =
      λ d (other, tells, is).
      is ∙ ap (λ (t : RouteLwEnCapType). (h.address_family, h.kind, t)) (governs-one item_type NoEncapsulation bytes other type tells governs);
  reads = λ xs reads. (type, governs, reads);
  means =
      λ xs (other, tells, reads).
      subst (λ (t : RouteLwEnCapType). ReadsList (family.reading (h.address_family, h.kind, t)).Reads bytes (map family.meaning xs))
      (governs-one item_type NoEncapsulation bytes other type tells governs) reads;
  faulty = λ e wrong. (type, governs, wrong);
  searched = searched item_type NoEncapsulation bytes type;
  looks = λ old mid new searches takes. (type, mid, searches, takes);
}

pub under_context : (h : RouteHeader) (bytes : List ℕ) (context : Context) → IsContext h bytes context
    → IsUnder routes family h bytes context (IsContext h bytes) (SearchesIt h bytes context)
under_context h bytes context (type, governs, is) =
    subst (λ (c : Context). IsUnder routes family h bytes c (IsContext h bytes) (SearchesIt h bytes c)) (sym is) (under_type h bytes type governs)
