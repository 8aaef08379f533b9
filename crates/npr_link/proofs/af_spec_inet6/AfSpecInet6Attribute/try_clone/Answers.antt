use Rattle.std.proofs.Common.{rules}
use Rattle.npr_link.proofs.Cloned.{cloned}
use Rattle.npr_link.proofs.af_spec_inet6.AfSpecInet6Attribute.try_clone.Goals as goal

pub returns-in-DevConf-clone_rows : goal.returns-in-DevConf-clone_rows
returns-in-DevConf-clone_rows c =
    let copy = c.clone_rows-try_clone in
    let put = c.clone_rows-map in
    cloned copy.result put.result put.ensures.cases copy.ensures.ok (λ x v l p. search rules)

pub returns-in-Stats-clone_rows : goal.returns-in-Stats-clone_rows
returns-in-Stats-clone_rows c =
    let copy = c.clone_rows-try_clone-2 in
    let put = c.clone_rows-map-2 in
    cloned copy.result put.result put.ensures.cases copy.ensures.ok (λ x v l p. search rules)

pub returns-in-Multicast-clone_rows : goal.returns-in-Multicast-clone_rows
returns-in-Multicast-clone_rows c =
    let copy = c.clone_rows-from_slice in
    let put = c.clone_rows-map-3 in
    cloned copy.result put.result put.ensures.cases copy.ensures.items (λ x v l p. search rules)

pub returns-in-Icmp6Stats-clone_rows : goal.returns-in-Icmp6Stats-clone_rows
returns-in-Icmp6Stats-clone_rows c =
    let copy = c.clone_rows-try_clone-3 in
    let put = c.clone_rows-map-4 in
    cloned copy.result put.result put.ensures.cases copy.ensures.ok (λ x v l p. search rules)

pub returns-in-Other-clone_rows : goal.returns-in-Other-clone_rows
returns-in-Other-clone_rows c =
    let copy = c.clone_rows-try_clone-4 in
    let put = c.clone_rows-map-5 in
    cloned copy.result put.result put.ensures.cases copy.ensures (λ x v l p. search rules)
