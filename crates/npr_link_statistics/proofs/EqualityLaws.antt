-- What `==` answers of structures that grew: whether they mean the same.
use Rattle.std.specs.Prelude.{Bool, List, [], ◌∷◌, ◌&&◌, ◌==◌, map}
use Rattle.std.specs.Bool.{Decides}
use Rattle.std.specs.Cmp.{signed_Decides, unsigned_Decides}
use Rattle.std.specs.Cmp.Lexicographic.{pointwise, pointwise_decides}
use Rattle.std.proofs.Common.{◌≡◌, refl, ap}
use Rattle.npr_base.specs.Equality.{IsEquality, IsEqualityOf}
use Rattle.npr_base.proofs.StructLaws.{and_decides, decides_as}
use Rattle.npr_link_statistics.specs.Grown.{Grown, Names, parts}
use Rattle.npr_link_statistics.specs.Names.{stats, stats64, inet_devconf, inet6_devconf, inet6_stats, icmp6_stats}
use Rattle.npr_link_statistics.specs.contracts.stats.StatsPartialEq.TheImpl as StatsEq
use Rattle.npr_link_statistics.specs.contracts.stats64.Stats64PartialEq.TheImpl as Stats64Eq
use Rattle.npr_link_statistics.specs.contracts.inet_devconf.InetDevConfPartialEq.TheImpl as InetDevConfEq
use Rattle.npr_link_statistics.specs.contracts.inet6_devconf.Inet6DevConfPartialEq.TheImpl as Inet6DevConfEq
use Rattle.npr_link_statistics.specs.contracts.inet6_stats.Inet6StatsPartialEq.TheImpl as Inet6StatsEq
use Rattle.npr_link_statistics.specs.contracts.icmp6_stats.Icmp6StatsPartialEq.TheImpl as Icmp6StatsEq

-- two structs of the same fields, each field and then the rest
unfoldable pub each : {D A : Type 0} → (A → A → Bool) → List (D → A) → D → D → Bool → Bool
each test [] a b rest = rest
each test (field ∷ fields) a b rest = test (field a) (field b) && each test fields a b rest

module _ {D A : Type 0} {test : A → A → Bool} (h : IsEquality test) where
  each-decides : (fields : List (D → A)) (a b : D) {rest : Bool} {P : Type 0} → Decides rest P
      → Decides (each test fields a b rest) ((map (λ field. field a) fields ≡ map (λ field. field b) fields) × P)
  unfolding each
  each-decides [] a b d = decides_as (λ p. (refl, p)) (λ p. p.1) d
  each-decides (field ∷ fields) a b d =
      decides_as (λ p. ((λ i. p.0 i ∷ p.1.0 i), p.1.1)) (λ p. ((cc), (cc, p.1)))
      (and_decides (h (field a) (field b)) (each-decides fields a b d))

  unfoldable pub same_parts : Names D A → D → D → Bool
  same_parts names a b = each test names.fields a b ((names.missing a == names.missing b) && pointwise test (names.more a) (names.more b))

  pub parts_equality : (names : Names D A) → IsEqualityOf (parts names) (same_parts names)
  unfolding same_parts
  parts_equality names a b =
      decides_as
      (λ p. λ i. record { fields = p.0 i; missing = p.1.0 i; more = p.1.1 i })
      (λ e. (ap (λ (g : Grown A). g.fields) e, (ap (λ (g : Grown A). g.missing) e, ap (λ (g : Grown A). g.more) e)))
      (each-decides names.fields a b (and_decides (unsigned_Decides (names.missing a) (names.missing b)) (pointwise_decides h (names.more a) (names.more b))))

pub stats_equality : IsEqualityOf (parts stats) StatsEq.ghosts.eq
unfolding stats each same_parts
stats_equality = parts_equality unsigned_Decides stats

pub stats64_equality : IsEqualityOf (parts stats64) Stats64Eq.ghosts.eq
unfolding stats64 each same_parts
stats64_equality = parts_equality unsigned_Decides stats64

pub inet_devconf_equality : IsEqualityOf (parts inet_devconf) InetDevConfEq.ghosts.eq
unfolding inet_devconf each same_parts
inet_devconf_equality = parts_equality signed_Decides inet_devconf

pub inet6_devconf_equality : IsEqualityOf (parts inet6_devconf) Inet6DevConfEq.ghosts.eq
unfolding inet6_devconf each same_parts
inet6_devconf_equality = parts_equality signed_Decides inet6_devconf

pub inet6_stats_equality : IsEqualityOf (parts inet6_stats) Inet6StatsEq.ghosts.eq
unfolding inet6_stats each same_parts
inet6_stats_equality = parts_equality signed_Decides inet6_stats

pub icmp6_stats_equality : IsEqualityOf (parts icmp6_stats) Icmp6StatsEq.ghosts.eq
unfolding icmp6_stats each same_parts
icmp6_stats_equality = parts_equality signed_Decides icmp6_stats
