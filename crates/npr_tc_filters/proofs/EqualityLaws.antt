-- What `==` answers of filters: whether two values are equal, or mean the same.
use Rattle.std.specs.Cmp.{signed_Decides, unsigned_Decides}
use Rattle.std.proofs.Common.{List, refl, rules, ap}
use Rattle.npr_base.specs.EnumTable.{◌also◌}
use Rattle.npr_base.specs.Equality.{IsEquality, IsEqualityOf}
use Rattle.npr_base.specs.Tables.{table_decides}
use Rattle.npr_base.proofs.EqualityLaws.{one_equality}
use Rattle.npr_base.proofs.FieldEquality.{one, list, number, bytes, kept}
use Rattle.npr_base.proofs.MeaningLaws.{items_equality, text_equality}
use Rattle.npr_base.proofs.StructLaws.{and_decides, decides_as, ◌beside◌, struct_equality}
use Rattle.npr_tc_actions.proofs.EqualityLaws.{action_equality}
use Rattle.npr_tc_actions.proofs.KindEquality.{bpf_instruction_equality, police_option_equality}
use Rattle.npr_tc_values.proofs.EqualityLaws.{handle_equality}
use Rattle.npr_tc_filters.specs.Basic as OfBasic
use Rattle.npr_tc_filters.specs.Bpf as OfBpf
use Rattle.npr_tc_filters.specs.Ematch as OfEmatch
use Rattle.npr_tc_filters.specs.EmatchTree as OfTree
pub use Rattle.npr_tc_filters.specs.lemmas.FlowerEquality.{flower_equality, flower_mpls_equality, flower_mpls_lse_equality, flower_cfm_equality}
use Rattle.npr_tc_filters.specs.Fw as OfFw
use Rattle.npr_tc_filters.specs.Hits.{u32_hits, match_all_hits, basic_hits}
use Rattle.npr_tc_filters.specs.MatchAll as OfMatchAll
use Rattle.npr_tc_filters.specs.U32Option as OfU32
use Rattle.npr_tc_filters.specs.U32Selector.{U32Front, u32_parts}
use Rattle.npr_tc_filters.specs.contracts.basic.TcFilterBasicOptionPartialEq.TheImpl as BasicEq
use Rattle.npr_tc_filters.specs.contracts.basic_pcnt.TcBasicPcntPartialEq.TheImpl as BasicPcntEq
use Rattle.npr_tc_filters.specs.contracts.ematch.TcEmatchPartialEq.TheImpl as EmatchEq
use Rattle.npr_tc_filters.specs.contracts.ematch_header.TcEmatchHeaderPartialEq.TheImpl as EmatchHeaderEq
use Rattle.npr_tc_filters.specs.contracts.ematch_tree.TcEmatchTreePartialEq.TheImpl as TreeEq
use Rattle.npr_tc_filters.specs.contracts.ematch_tree_header.TcEmatchTreeHeaderPartialEq.TheImpl as TreeHeaderEq
use Rattle.npr_tc_filters.specs.contracts.bpf.TcFilterBpfOptionPartialEq.TheImpl as FilterBpfOptionEq
use Rattle.npr_tc_filters.specs.contracts.fw.TcFilterFwOptionPartialEq.TheImpl as FilterFwOptionEq
use Rattle.npr_tc_filters.specs.contracts.match_all.TcFilterMatchAllOptionPartialEq.TheImpl as MatchAllEq
use Rattle.npr_tc_filters.specs.contracts.match_all_pcnt.TcMatchAllPcntPartialEq.TheImpl as MatchAllPcntEq
use Rattle.npr_tc_filters.specs.contracts.u32_key.TcU32Key.{struct as key_struct}
use Rattle.npr_tc_filters.specs.contracts.u32_key.TcU32KeyPartialEq.TheImpl as KeyEq
use Rattle.npr_tc_filters.specs.contracts.u32_mark.TcU32MarkPartialEq.TheImpl as MarkEq
use Rattle.npr_tc_filters.specs.contracts.u32_option.TcFilterU32OptionPartialEq.TheImpl as U32Eq
use Rattle.npr_tc_filters.specs.contracts.u32_option_flags.TcU32OptionFlagsPartialEq.TheImpl as OptionFlagsEq
use Rattle.npr_tc_filters.specs.contracts.u32_pcnt.TcU32PcntPartialEq.TheImpl as U32PcntEq
use Rattle.npr_tc_filters.specs.contracts.u32_selector.TcU32SelectorPartialEq.TheImpl as SelectorEq
use Rattle.npr_tc_filters.specs.contracts.u32_selector_flags.TcU32SelectorFlagsPartialEq.TheImpl as SelectorFlagsEq
use Rattle.npr_tc_filters.specs.declared.u32_key.TcU32Key.{TcU32Key}

-- ---- values

pub u32_selector_flags_equality : IsEquality SelectorFlagsEq.ghosts.eq
u32_selector_flags_equality = search rules

pub u32_option_flags_equality : IsEquality OptionFlagsEq.ghosts.eq
u32_option_flags_equality = search rules

pub u32_key_equality : IsEquality KeyEq.ghosts.eq
u32_key_equality =
    struct_equality key_struct (λ v. tt) (λ d. refl)
    (unsigned_Decides beside unsigned_Decides beside signed_Decides beside one_equality signed_Decides)

pub u32_mark_equality : IsEquality MarkEq.ghosts.eq
u32_mark_equality = search rules

pub ematch_header_equality : IsEquality EmatchHeaderEq.ghosts.eq
ematch_header_equality = search rules

pub ematch_tree_header_equality : IsEquality TreeHeaderEq.ghosts.eq
ematch_tree_header_equality = search rules

pub u32_pcnt_equality : IsEqualityOf u32_hits U32PcntEq.ghosts.eq
u32_pcnt_equality a b = items_equality unsigned_Decides a.numbers b.numbers

pub match_all_pcnt_equality : IsEqualityOf match_all_hits MatchAllPcntEq.ghosts.eq
match_all_pcnt_equality a b = items_equality unsigned_Decides a.numbers b.numbers

pub basic_pcnt_equality : IsEqualityOf basic_hits BasicPcntEq.ghosts.eq
basic_pcnt_equality a b = items_equality unsigned_Decides a.numbers b.numbers

abbrev Selector : Type 0
Selector = U32Front × List TcU32Key

-- the numbers one by one, and the keys
pub u32_selector_equality : IsEqualityOf u32_parts SelectorEq.ghosts.eq
u32_selector_equality a b =
    decides_as
    (λ p. λ i. (
      (p.0 i, (p.1.0 i, (p.1.1.0 i, (p.1.1.1.0 i, (p.1.1.1.1.0 i, (p.1.1.1.1.1.0 i, (p.1.1.1.1.1.1.0 i, p.1.1.1.1.1.1.1.0 i))))))),
      p.1.1.1.1.1.1.1.1 i,
    ))
    (λ e. (
      ap (λ (s : Selector). s.0.0) e,
      (
        ap (λ (s : Selector). s.0.1.0) e,
        (
          ap (λ (s : Selector). s.0.1.1.0) e,
          (
            ap (λ (s : Selector). s.0.1.1.1.0) e,
            (
              ap (λ (s : Selector). s.0.1.1.1.1.0) e,
              (
                ap (λ (s : Selector). s.0.1.1.1.1.1.0) e,
                (ap (λ (s : Selector). s.0.1.1.1.1.1.1.0) e, (ap (λ (s : Selector). s.0.1.1.1.1.1.1.1) e, ap (λ (s : Selector). s.1) e)),
              ),
            ),
          ),
        ),
      ),
    ))
    (and_decides (u32_selector_flags_equality a.flags b.flags) (and_decides (unsigned_Decides a.offshift b.offshift)
    (and_decides (unsigned_Decides a.nkeys b.nkeys) (and_decides (unsigned_Decides a.offmask b.offmask)
    (and_decides (unsigned_Decides a.off b.off) (and_decides (unsigned_Decides a.offoff b.offoff)
    (and_decides (unsigned_Decides a.hoff b.hoff) (and_decides (unsigned_Decides a.hmask b.hmask)
    (items_equality u32_key_equality a.keys b.keys)))))))))

-- ---- families

-- number, structure and bytes one by one
pub ematch_equality : IsEqualityOf OfEmatch.family.meaning EmatchEq.ghosts.eq
ematch_equality a b =
    decides_as (λ p. λ i. record { number = p.0 i; value = (p.1.0 i, p.1.1 i) })
    (λ e. (
      ap (λ (m : OfEmatch.Meaning). m.number) e,
      (ap (λ (m : OfEmatch.Meaning). m.value.0) e, ap (λ (m : OfEmatch.Meaning). m.value.1) e),
    ))
    (and_decides (unsigned_Decides a.tab b.tab)
    (and_decides (ematch_header_equality a.header b.header) (items_equality unsigned_Decides a.data b.data)))

pub ematch_tree_equality : IsEqualityOf OfTree.family.meaning TreeEq.ghosts.eq
ematch_tree_equality = table_decides OfTree.table _ (one ematch_tree_header_equality also list ematch_equality also kept also tt)

pub basic_equality : IsEqualityOf OfBasic.family.meaning BasicEq.ghosts.eq
basic_equality =
    table_decides OfBasic.table _
    (one handle_equality also list ematch_tree_equality also list action_equality also list police_option_equality also
    one basic_pcnt_equality also kept also tt)

pub match_all_equality : IsEqualityOf OfMatchAll.family.meaning MatchAllEq.ghosts.eq
match_all_equality =
    table_decides OfMatchAll.table _
    (one handle_equality also list action_equality also number also one match_all_pcnt_equality also kept also tt)

pub u32_equality : IsEqualityOf OfU32.family.meaning U32Eq.ghosts.eq
u32_equality =
    table_decides OfU32.table _
    (one handle_equality also number also number also number also one u32_selector_equality also list police_option_equality also
    list action_equality also
    one text_equality also one u32_pcnt_equality also one u32_mark_equality also one u32_option_flags_equality also kept also tt)

pub fw_equality : IsEqualityOf OfFw.family.meaning FilterFwOptionEq.ghosts.eq
fw_equality =
    table_decides OfFw.table _
    (one handle_equality also list police_option_equality also one text_equality also list action_equality also number also kept also tt)

pub bpf_equality : IsEqualityOf OfBpf.family.meaning FilterBpfOptionEq.ghosts.eq
bpf_equality =
    table_decides OfBpf.table _
    (list action_equality also list police_option_equality also one handle_equality also number also
    (λ x y. items_equality bpf_instruction_equality x.0 y.0) also number also one text_equality also number also
    one u32_option_flags_equality also bytes also number also kept also tt)
