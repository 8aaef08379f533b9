-- What `==` answers of the options of actions: whether two values are equal, or mean the same.
use Rattle.std.specs.Cmp.{signed_Decides, unsigned_Decides}
use Rattle.std.proofs.Common.{refl, rules}
use Rattle.npr_base.proofs.EqualityLaws.{enum_equality, one_equality}
use Rattle.npr_base.proofs.FieldEquality.{one, number, bytes, kept}
use Rattle.npr_base.proofs.IpLaws.{ipv4_equality, ipv6_equality}
use Rattle.npr_base.proofs.MeaningLaws.{items_equality, text_equality}
use Rattle.npr_base.proofs.StructLaws.{◌beside◌, struct_equality}
use Rattle.npr_base.specs.EnumTable.{◌also◌}
use Rattle.npr_base.specs.Equality.{IsEquality, IsEqualityOf}
use Rattle.npr_base.specs.Tables.{table_decides}
use Rattle.npr_base.specs.ViewEquality.{bytes_equality}
use Rattle.npr_tc_values.proofs.EqualityLaws.{handle_equality}
use Rattle.npr_tc_values.proofs.EqualityLaws.{rate_spec_equality}
use Rattle.npr_tc_actions.proofs.ValueEquality.{action_type_equality, generic_equality, times_equality}
use Rattle.npr_tc_actions.specs.BpfOption as OfBpfOption
use Rattle.npr_tc_actions.specs.CsumOption as OfCsumOption
use Rattle.npr_tc_actions.specs.CtOption as OfCtOption
use Rattle.npr_tc_actions.specs.GactOption as OfGactOption
use Rattle.npr_tc_actions.specs.PoliceOption as OfPoliceOption
use Rattle.npr_tc_actions.specs.SampleOption as OfSampleOption
use Rattle.npr_tc_actions.specs.SkbeditOption as OfSkbeditOption
use Rattle.npr_tc_actions.specs.VlanOption as OfVlanOption
use Rattle.npr_tc_actions.specs.contracts.bpf_instruction.TcBpfInstruction.{struct as bpf_instruction_struct}
use Rattle.npr_tc_actions.specs.contracts.bpf_instruction.TcBpfInstructionPartialEq.TheImpl as BpfInstructionEq
use Rattle.npr_tc_actions.specs.contracts.bpf_option.TcActionBpfOptionPartialEq.TheImpl as ActionBpfOptionEq
use Rattle.npr_tc_actions.specs.contracts.csum.TcCsum.{struct as csum_struct}
use Rattle.npr_tc_actions.specs.contracts.csum.TcCsumPartialEq.TheImpl as CsumEq
use Rattle.npr_tc_actions.specs.contracts.csum_flags.TcCsumFlagsPartialEq.TheImpl as CsumFlagsEq
use Rattle.npr_tc_actions.specs.contracts.csum_option.TcActionCsumOptionPartialEq.TheImpl as ActionCsumOptionEq
use Rattle.npr_tc_actions.specs.contracts.ct_flags.TcCtFlagsPartialEq.TheImpl as CtFlagsEq
use Rattle.npr_tc_actions.specs.contracts.ct_option.TcActionCtOptionPartialEq.TheImpl as ActionCtOptionEq
use Rattle.npr_tc_actions.specs.contracts.gact_option.TcActionGactOptionPartialEq.TheImpl as ActionGactOptionEq
use Rattle.npr_tc_actions.specs.contracts.gact_probability.TcGactProbability.{struct as gact_probability_struct}
use Rattle.npr_tc_actions.specs.contracts.gact_probability.TcGactProbabilityPartialEq.TheImpl as GactProbabilityEq
use Rattle.npr_tc_actions.specs.contracts.police.TcPolice.{struct as police_struct}
use Rattle.npr_tc_actions.specs.contracts.police.TcPolicePartialEq.TheImpl as PoliceEq
use Rattle.npr_tc_actions.specs.contracts.police_option.TcActionPoliceOptionPartialEq.TheImpl as ActionPoliceOptionEq
use Rattle.npr_tc_actions.specs.contracts.sample_option.TcActionSampleOptionPartialEq.TheImpl as ActionSampleOptionEq
use Rattle.npr_tc_actions.specs.contracts.skbedit_option.TcActionSkbeditOptionPartialEq.TheImpl as ActionSkbeditOptionEq
use Rattle.npr_tc_actions.specs.contracts.vlan.TcVlan.{struct as vlan_struct}
use Rattle.npr_tc_actions.specs.contracts.vlan.TcVlanPartialEq.TheImpl as VlanEq
use Rattle.npr_tc_actions.specs.contracts.vlan_action_type.TcVlanActionType.{enum as vlan_action_type_enum}
use Rattle.npr_tc_actions.specs.contracts.vlan_action_type.TcVlanActionTypePartialEq.TheImpl as VlanActionTypeEq
use Rattle.npr_tc_actions.specs.contracts.vlan_option.TcActionVlanOptionPartialEq.TheImpl as ActionVlanOptionEq

-- ---- values

pub ct_flags_equality : IsEquality CtFlagsEq.ghosts.eq
ct_flags_equality = search rules

pub csum_flags_equality : IsEquality CsumFlagsEq.ghosts.eq
csum_flags_equality = search rules

pub vlan_action_type_equality : IsEquality VlanActionTypeEq.ghosts.eq
vlan_action_type_equality = enum_equality vlan_action_type_enum _ refl (one_equality signed_Decides, tt)

pub police_equality : IsEquality PoliceEq.ghosts.eq
police_equality =
    struct_equality police_struct (λ v. tt) (λ d. refl)
    (unsigned_Decides beside action_type_equality beside unsigned_Decides beside unsigned_Decides beside unsigned_Decides beside rate_spec_equality
    beside rate_spec_equality beside signed_Decides beside signed_Decides beside one_equality unsigned_Decides)

pub vlan_equality : IsEquality VlanEq.ghosts.eq
vlan_equality =
    struct_equality vlan_struct (λ v. tt) (λ d. refl)
    (generic_equality beside one_equality vlan_action_type_equality)

pub csum_equality : IsEquality CsumEq.ghosts.eq
csum_equality =
    struct_equality csum_struct (λ v. tt) (λ d. refl)
    (generic_equality beside one_equality csum_flags_equality)

pub gact_probability_equality : IsEquality GactProbabilityEq.ghosts.eq
gact_probability_equality =
    struct_equality gact_probability_struct (λ v. tt) (λ d. refl)
    (unsigned_Decides beside unsigned_Decides beside one_equality action_type_equality)

pub bpf_instruction_equality : IsEquality BpfInstructionEq.ghosts.eq
bpf_instruction_equality =
    struct_equality bpf_instruction_struct (λ v. tt) (λ d. refl)
    (unsigned_Decides beside unsigned_Decides beside unsigned_Decides beside one_equality unsigned_Decides)

-- ---- sets

pub gact_option_equality : IsEqualityOf OfGactOption.family.meaning ActionGactOptionEq.ghosts.eq
gact_option_equality =
    table_decides OfGactOption.table _
    (one times_equality also one generic_equality also one gact_probability_equality also kept also tt)

pub police_option_equality : IsEqualityOf OfPoliceOption.family.meaning ActionPoliceOptionEq.ghosts.eq
police_option_equality =
    table_decides OfPoliceOption.table _
    (one police_equality also bytes also bytes also number also one action_type_equality also one times_equality also number also number also
    number also number also kept also tt)

pub vlan_option_equality : IsEqualityOf OfVlanOption.family.meaning ActionVlanOptionEq.ghosts.eq
vlan_option_equality =
    table_decides OfVlanOption.table _
    (one times_equality also one vlan_equality also number also number also number also one bytes_equality also one bytes_equality also kept also
    tt)

pub skbedit_option_equality : IsEqualityOf OfSkbeditOption.family.meaning ActionSkbeditOptionEq.ghosts.eq
skbedit_option_equality =
    table_decides OfSkbeditOption.table _
    (one times_equality also one generic_equality also one handle_equality also number also number also number also number also number also
    number also kept also tt)

pub csum_option_equality : IsEqualityOf OfCsumOption.family.meaning ActionCsumOptionEq.ghosts.eq
csum_option_equality =
    table_decides OfCsumOption.table _
    (one csum_equality also one times_equality also kept also tt)

pub ct_option_equality : IsEqualityOf OfCtOption.family.meaning ActionCtOptionEq.ghosts.eq
ct_option_equality =
    table_decides OfCtOption.table _
    (one generic_equality also one times_equality also one ct_flags_equality also number also number also number also bytes also bytes also
    one ipv4_equality also one ipv4_equality also one ipv6_equality also one ipv6_equality also number also number also one text_equality also
    number also number also kept also tt)

pub sample_option_equality : IsEqualityOf OfSampleOption.family.meaning ActionSampleOptionEq.ghosts.eq
sample_option_equality =
    table_decides OfSampleOption.table _
    (one times_equality also one generic_equality also number also number also number also kept also tt)

pub bpf_option_equality : IsEqualityOf OfBpfOption.family.meaning ActionBpfOptionEq.ghosts.eq
bpf_option_equality =
    table_decides OfBpfOption.table _
    (one times_equality also one generic_equality also number also (λ x y. items_equality bpf_instruction_equality x.0 y.0) also number also one text_equality also bytes also
    number also kept also tt)
