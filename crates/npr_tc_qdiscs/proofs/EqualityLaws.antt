-- What `==` answers of the data of queueing disciplines: whether two values are equal, or mean the same.
use Rattle.npr_base.proofs.EqualityLaws.{one_equality, enum_equality}
use Rattle.npr_base.proofs.FieldEquality.{one, list, number, bytes, kept, nothing}
use Rattle.npr_base.proofs.MeaningLaws.{items_equality, items_meaning}
use Rattle.npr_base.proofs.StructLaws.{◌beside◌, and_decides, decides_as, struct_equality}
use Rattle.npr_base.specs.EnumTable.{◌also◌}
use Rattle.npr_base.specs.Equality.{IsEquality, IsEqualityOf}
use Rattle.npr_base.specs.Message.{View}
use Rattle.npr_base.specs.Tables.{table_decides}
use Rattle.npr_base.specs.ViewEquality.{bytes_equality}
use Rattle.npr_tc_qdiscs.specs.Cake as OfCake
use Rattle.npr_tc_qdiscs.specs.Fq as OfFq
use Rattle.npr_tc_qdiscs.specs.FqCodel as OfFqCodel
use Rattle.npr_tc_qdiscs.specs.FqWeights.{fq_weights_of}
use Rattle.npr_tc_qdiscs.specs.Htb as OfHtb
use Rattle.npr_tc_qdiscs.specs.Ingress as OfIngress
use Rattle.npr_tc_qdiscs.specs.Mqprio.{Mqprio, mqprio_of}
use Rattle.npr_tc_qdiscs.specs.MqprioEntry as OfMqprioEntry
use Rattle.npr_tc_qdiscs.specs.MqprioOption as OfMqprioOption
use Rattle.npr_tc_qdiscs.specs.Netem.{netems, netem_of}
use Rattle.npr_tc_qdiscs.specs.NetemLoss as OfNetemLoss
use Rattle.npr_tc_qdiscs.specs.NetemOption as OfNetemOption
use Rattle.npr_tc_qdiscs.specs.Red as OfRed
use Rattle.npr_tc_qdiscs.specs.Stab as OfStab
use Rattle.npr_tc_qdiscs.specs.StabData.{stab_data_of}
use Rattle.npr_tc_qdiscs.specs.Tbf as OfTbf
use Rattle.npr_tc_qdiscs.specs.contracts.cake.TcQdiscCakeOptionPartialEq.TheImpl as CakeEq
use Rattle.npr_tc_qdiscs.specs.contracts.cake_ack_filter.TcCakeAckFilter.{enum as ack_filter_enum}
use Rattle.npr_tc_qdiscs.specs.contracts.cake_ack_filter.TcCakeAckFilterPartialEq.TheImpl as AckFilterEq
use Rattle.npr_tc_qdiscs.specs.contracts.cake_atm.TcCakeAtm.{enum as atm_enum}
use Rattle.npr_tc_qdiscs.specs.contracts.cake_atm.TcCakeAtmPartialEq.TheImpl as AtmEq
use Rattle.npr_tc_qdiscs.specs.contracts.cake_diffserv_mode.TcCakeDiffservMode.{enum as diffserv_mode_enum}
use Rattle.npr_tc_qdiscs.specs.contracts.cake_diffserv_mode.TcCakeDiffservModePartialEq.TheImpl as DiffservModeEq
use Rattle.npr_tc_qdiscs.specs.contracts.cake_flow_mode.TcCakeFlowMode.{enum as flow_mode_enum}
use Rattle.npr_tc_qdiscs.specs.contracts.cake_flow_mode.TcCakeFlowModePartialEq.TheImpl as FlowModeEq
use Rattle.npr_tc_qdiscs.specs.contracts.fifo_qopt.TcFifoQopt.{struct as fifo_qopt_struct}
use Rattle.npr_tc_qdiscs.specs.contracts.fifo_qopt.TcFifoQoptPartialEq.TheImpl as FifoQoptEq
use Rattle.npr_tc_qdiscs.specs.contracts.fq.TcQdiscFqOptionPartialEq.TheImpl as QdiscFqOptionEq
use Rattle.npr_tc_qdiscs.specs.contracts.fq_codel.TcQdiscFqCodelOptionPartialEq.TheImpl as FqCodelEq
use Rattle.npr_tc_qdiscs.specs.contracts.fq_weights.TcFqWeightsPartialEq.TheImpl as FqWeightsEq
use Rattle.npr_tc_qdiscs.specs.contracts.htb.TcQdiscHtbOptionPartialEq.TheImpl as QdiscHtbOptionEq
use Rattle.npr_tc_qdiscs.specs.contracts.htb_glob.TcHtbGlob.{struct as htb_glob_struct}
use Rattle.npr_tc_qdiscs.specs.contracts.htb_glob.TcHtbGlobPartialEq.TheImpl as HtbGlobEq
use Rattle.npr_tc_qdiscs.specs.contracts.htb_opt.TcHtbOpt.{struct as htb_opt_struct}
use Rattle.npr_tc_qdiscs.specs.contracts.htb_opt.TcHtbOptPartialEq.TheImpl as HtbOptEq
use Rattle.npr_tc_qdiscs.specs.contracts.ingress.TcQdiscIngressOptionPartialEq.TheImpl as IngressEq
use Rattle.npr_tc_qdiscs.specs.contracts.mqprio.TcMqprioPartialEq.TheImpl as MqprioEq
use Rattle.npr_tc_qdiscs.specs.contracts.mqprio_entry.TcMqprioEntryPartialEq.TheImpl as MqprioEntryEq
use Rattle.npr_tc_qdiscs.specs.contracts.mqprio_option.TcQdiscMqprioOptionPartialEq.TheImpl as QdiscMqprioOptionEq
use Rattle.npr_tc_qdiscs.specs.contracts.mqprio_qopt.TcMqprioQopt.{struct as mqprio_qopt_struct}
use Rattle.npr_tc_qdiscs.specs.contracts.mqprio_qopt.TcMqprioQoptPartialEq.TheImpl as MqprioQoptEq
use Rattle.npr_tc_qdiscs.specs.contracts.netem.TcNetemPartialEq.TheImpl as NetemEq
use Rattle.npr_tc_qdiscs.specs.contracts.netem_corr.TcNetemCorr.{struct as netem_corr_struct}
use Rattle.npr_tc_qdiscs.specs.contracts.netem_corr.TcNetemCorrPartialEq.TheImpl as NetemCorrEq
use Rattle.npr_tc_qdiscs.specs.contracts.netem_corrupt.TcNetemCorrupt.{struct as netem_corrupt_struct}
use Rattle.npr_tc_qdiscs.specs.contracts.netem_corrupt.TcNetemCorruptPartialEq.TheImpl as NetemCorruptEq
use Rattle.npr_tc_qdiscs.specs.contracts.netem_ge_model.TcNetemGeModel.{struct as netem_ge_model_struct}
use Rattle.npr_tc_qdiscs.specs.contracts.netem_ge_model.TcNetemGeModelPartialEq.TheImpl as NetemGeModelEq
use Rattle.npr_tc_qdiscs.specs.contracts.netem_gi_model.TcNetemGiModel.{struct as netem_gi_model_struct}
use Rattle.npr_tc_qdiscs.specs.contracts.netem_gi_model.TcNetemGiModelPartialEq.TheImpl as NetemGiModelEq
use Rattle.npr_tc_qdiscs.specs.contracts.netem_loss.TcNetemLossPartialEq.TheImpl as NetemLossEq
use Rattle.npr_tc_qdiscs.specs.contracts.netem_option.TcQdiscNetemOptionPartialEq.TheImpl as QdiscNetemOptionEq
use Rattle.npr_tc_qdiscs.specs.contracts.netem_qopt.TcNetemQopt.{struct as netem_qopt_struct}
use Rattle.npr_tc_qdiscs.specs.contracts.netem_qopt.TcNetemQoptPartialEq.TheImpl as NetemQoptEq
use Rattle.npr_tc_qdiscs.specs.contracts.netem_rate.TcNetemRate.{struct as netem_rate_struct}
use Rattle.npr_tc_qdiscs.specs.contracts.netem_rate.TcNetemRatePartialEq.TheImpl as NetemRateEq
use Rattle.npr_tc_qdiscs.specs.contracts.netem_reorder.TcNetemReorder.{struct as netem_reorder_struct}
use Rattle.npr_tc_qdiscs.specs.contracts.netem_reorder.TcNetemReorderPartialEq.TheImpl as NetemReorderEq
use Rattle.npr_tc_qdiscs.specs.contracts.netem_slot.TcNetemSlot.{struct as netem_slot_struct}
use Rattle.npr_tc_qdiscs.specs.contracts.netem_slot.TcNetemSlotPartialEq.TheImpl as NetemSlotEq
use Rattle.npr_tc_qdiscs.specs.contracts.prio_qopt.TcPrioQopt.{struct as prio_qopt_struct}
use Rattle.npr_tc_qdiscs.specs.contracts.prio_qopt.TcPrioQoptPartialEq.TheImpl as PrioQoptEq
use Rattle.npr_tc_qdiscs.specs.contracts.red.TcQdiscRedOptionPartialEq.TheImpl as QdiscRedOptionEq
use Rattle.npr_tc_qdiscs.specs.contracts.red_qopt.TcRedQopt.{struct as red_qopt_struct}
use Rattle.npr_tc_qdiscs.specs.contracts.red_qopt.TcRedQoptPartialEq.TheImpl as RedQoptEq
use Rattle.npr_tc_qdiscs.specs.contracts.sfq_qopt.TcSfqQoptPartialEq.TheImpl as SfqQoptEq
use Rattle.npr_tc_qdiscs.specs.contracts.size_spec.TcSizeSpec.{struct as size_spec_struct}
use Rattle.npr_tc_qdiscs.specs.contracts.size_spec.TcSizeSpecPartialEq.TheImpl as SizeSpecEq
use Rattle.npr_tc_qdiscs.specs.contracts.stab.TcStabPartialEq.TheImpl as StabEq
use Rattle.npr_tc_qdiscs.specs.contracts.stab_data.TcStabDataPartialEq.TheImpl as StabDataEq
use Rattle.npr_tc_qdiscs.specs.contracts.tbf.TcQdiscTbfOptionPartialEq.TheImpl as QdiscTbfOptionEq
use Rattle.npr_tc_qdiscs.specs.contracts.tbf_qopt.TcTbfQopt.{struct as tbf_qopt_struct}
use Rattle.npr_tc_qdiscs.specs.contracts.tbf_qopt.TcTbfQoptPartialEq.TheImpl as TbfQoptEq
use Rattle.npr_tc_values.proofs.EqualityLaws.{bitfield_equality, rate_spec_equality}
use Rattle.std.proofs.Common.{refl, ap}
use Rattle.std.specs.Cmp.{signed_Decides, unsigned_Decides}

-- ---- enumerations

pub cake_diffserv_mode_equality : IsEquality DiffservModeEq.ghosts.eq
cake_diffserv_mode_equality = enum_equality diffserv_mode_enum _ refl (one_equality unsigned_Decides, tt)

pub cake_atm_equality : IsEquality AtmEq.ghosts.eq
cake_atm_equality = enum_equality atm_enum _ refl (one_equality unsigned_Decides, tt)

pub cake_flow_mode_equality : IsEquality FlowModeEq.ghosts.eq
cake_flow_mode_equality = enum_equality flow_mode_enum _ refl (one_equality unsigned_Decides, tt)

pub cake_ack_filter_equality : IsEquality AckFilterEq.ghosts.eq
cake_ack_filter_equality = enum_equality ack_filter_enum _ refl (one_equality unsigned_Decides, tt)

-- ---- structures

pub size_spec_equality : IsEquality SizeSpecEq.ghosts.eq
size_spec_equality =
    struct_equality size_spec_struct (λ v. tt) (λ d. refl)
    (unsigned_Decides beside unsigned_Decides beside signed_Decides beside signed_Decides beside unsigned_Decides beside unsigned_Decides
    beside unsigned_Decides beside one_equality unsigned_Decides)

pub htb_opt_equality : IsEquality HtbOptEq.ghosts.eq
htb_opt_equality =
    struct_equality htb_opt_struct (λ v. tt) (λ d. refl)
    (rate_spec_equality beside rate_spec_equality beside unsigned_Decides beside unsigned_Decides beside unsigned_Decides beside unsigned_Decides
    beside one_equality unsigned_Decides)

pub htb_glob_equality : IsEquality HtbGlobEq.ghosts.eq
htb_glob_equality =
    struct_equality htb_glob_struct (λ v. tt) (λ d. refl)
    (unsigned_Decides beside unsigned_Decides beside unsigned_Decides beside unsigned_Decides beside one_equality unsigned_Decides)

pub tbf_qopt_equality : IsEquality TbfQoptEq.ghosts.eq
tbf_qopt_equality =
    struct_equality tbf_qopt_struct (λ v. tt) (λ d. refl)
    (rate_spec_equality beside rate_spec_equality beside unsigned_Decides beside unsigned_Decides beside one_equality unsigned_Decides)

pub red_qopt_equality : IsEquality RedQoptEq.ghosts.eq
red_qopt_equality =
    struct_equality red_qopt_struct (λ v. tt) (λ d. refl)
    (unsigned_Decides beside unsigned_Decides beside unsigned_Decides beside unsigned_Decides beside unsigned_Decides beside unsigned_Decides
    beside one_equality unsigned_Decides)

pub prio_qopt_equality : IsEquality PrioQoptEq.ghosts.eq
prio_qopt_equality =
    struct_equality prio_qopt_struct (λ v. tt) (λ d. refl)
    (signed_Decides beside one_equality bytes_equality)

pub fifo_qopt_equality : IsEquality FifoQoptEq.ghosts.eq
fifo_qopt_equality =
    struct_equality fifo_qopt_struct (λ v. tt) (λ d. refl)
    (one_equality unsigned_Decides)

pub netem_qopt_equality : IsEquality NetemQoptEq.ghosts.eq
netem_qopt_equality =
    struct_equality netem_qopt_struct (λ v. tt) (λ d. refl)
    (unsigned_Decides beside unsigned_Decides beside unsigned_Decides beside unsigned_Decides beside unsigned_Decides
    beside one_equality unsigned_Decides)

pub netem_corr_equality : IsEquality NetemCorrEq.ghosts.eq
netem_corr_equality =
    struct_equality netem_corr_struct (λ v. tt) (λ d. refl)
    (unsigned_Decides beside unsigned_Decides beside one_equality unsigned_Decides)

pub netem_reorder_equality : IsEquality NetemReorderEq.ghosts.eq
netem_reorder_equality =
    struct_equality netem_reorder_struct (λ v. tt) (λ d. refl)
    (unsigned_Decides beside one_equality unsigned_Decides)

pub netem_corrupt_equality : IsEquality NetemCorruptEq.ghosts.eq
netem_corrupt_equality =
    struct_equality netem_corrupt_struct (λ v. tt) (λ d. refl)
    (unsigned_Decides beside one_equality unsigned_Decides)

pub netem_rate_equality : IsEquality NetemRateEq.ghosts.eq
netem_rate_equality =
    struct_equality netem_rate_struct (λ v. tt) (λ d. refl)
    (unsigned_Decides beside signed_Decides beside unsigned_Decides beside one_equality signed_Decides)

pub netem_slot_equality : IsEquality NetemSlotEq.ghosts.eq
netem_slot_equality =
    struct_equality netem_slot_struct (λ v. tt) (λ d. refl)
    (signed_Decides beside signed_Decides beside signed_Decides beside signed_Decides beside signed_Decides beside one_equality signed_Decides)

pub netem_gi_model_equality : IsEquality NetemGiModelEq.ghosts.eq
netem_gi_model_equality =
    struct_equality netem_gi_model_struct (λ v. tt) (λ d. refl)
    (unsigned_Decides beside unsigned_Decides beside unsigned_Decides beside unsigned_Decides beside one_equality unsigned_Decides)

pub netem_ge_model_equality : IsEquality NetemGeModelEq.ghosts.eq
netem_ge_model_equality =
    struct_equality netem_ge_model_struct (λ v. tt) (λ d. refl)
    (unsigned_Decides beside unsigned_Decides beside unsigned_Decides beside one_equality unsigned_Decides)

pub mqprio_qopt_equality : IsEquality MqprioQoptEq.ghosts.eq
mqprio_qopt_equality =
    struct_equality mqprio_qopt_struct (λ v. tt) (λ d. refl)
    (unsigned_Decides beside bytes_equality beside unsigned_Decides beside bytes_equality beside one_equality bytes_equality)

-- ---- bytes and numbers

pub fq_weights_equality : IsEqualityOf fq_weights_of FqWeightsEq.ghosts.eq
fq_weights_equality a b = items_equality signed_Decides a.numbers b.numbers

pub stab_data_equality : IsEqualityOf stab_data_of StabDataEq.ghosts.eq
stab_data_equality a b = items_equality unsigned_Decides a.numbers b.numbers

pub sfq_qopt_equality : IsEqualityOf (λ x. x.bytes.items) SfqQoptEq.ghosts.eq
sfq_qopt_equality a b = items_equality unsigned_Decides a.bytes b.bytes

-- ---- sets

pub htb_equality : IsEqualityOf OfHtb.family.meaning QdiscHtbOptionEq.ghosts.eq
htb_equality =
    table_decides OfHtb.table _
    (one htb_opt_equality also one htb_glob_equality also bytes also bytes also number also number also number also nothing also kept also tt)

pub tbf_equality : IsEqualityOf OfTbf.family.meaning QdiscTbfOptionEq.ghosts.eq
tbf_equality =
    table_decides OfTbf.table _
    (one tbf_qopt_equality also bytes also bytes also number also number also number also number also kept also tt)

pub red_equality : IsEqualityOf OfRed.family.meaning QdiscRedOptionEq.ghosts.eq
red_equality =
    table_decides OfRed.table _
    (one red_qopt_equality also bytes also number also one bitfield_equality also number also number also kept also tt)

pub fq_equality : IsEqualityOf OfFq.family.meaning QdiscFqOptionEq.ghosts.eq
fq_equality =
    table_decides OfFq.table _
    (number also number also number also number also number also number also number also number also number also number also number also
    number also number also number also number also one prio_qopt_equality also one fq_weights_equality also number also kept also tt)

pub netem_loss_equality : IsEqualityOf OfNetemLoss.family.meaning NetemLossEq.ghosts.eq
netem_loss_equality =
    table_decides OfNetemLoss.table _
    (one netem_gi_model_equality also one netem_ge_model_equality also kept also tt)

pub netem_option_equality : IsEqualityOf OfNetemOption.family.meaning QdiscNetemOptionEq.ghosts.eq
netem_option_equality =
    table_decides OfNetemOption.table _
    (one netem_corr_equality also bytes also one netem_reorder_equality also one netem_corrupt_equality also list netem_loss_equality also
    one netem_rate_equality also number also number also one signed_Decides also one signed_Decides also one netem_slot_equality also bytes also
    number also kept also tt)

pub netem_equality : IsEqualityOf netem_of NetemEq.ghosts.eq
netem_equality a b =
    decides_as
    (λ p. λ i. record { header = p.0 i; attributes = p.1 i })
    (λ e. (ap (λ (m : View netems). m.header) e, ap (λ (m : View netems). m.attributes) e))
    (and_decides (netem_qopt_equality a.qopt b.qopt) (items_meaning OfNetemOption.family.meaning netem_option_equality a.options b.options))

pub mqprio_entry_equality : IsEqualityOf OfMqprioEntry.family.meaning MqprioEntryEq.ghosts.eq
mqprio_entry_equality = table_decides OfMqprioEntry.table _ (number also number also kept also tt)

pub mqprio_option_equality : IsEqualityOf OfMqprioOption.family.meaning QdiscMqprioOptionEq.ghosts.eq
mqprio_option_equality =
    table_decides OfMqprioOption.table _
    (number also number also bytes also bytes also list mqprio_entry_equality also kept also tt)

pub mqprio_equality : IsEqualityOf mqprio_of MqprioEq.ghosts.eq
mqprio_equality a b =
    decides_as
    (λ p. λ i. record { header = p.0 i; attributes = p.1 i })
    (λ e. (ap (λ (m : Mqprio). m.header) e, ap (λ (m : Mqprio). m.attributes) e))
    (and_decides (mqprio_qopt_equality a.qopt b.qopt) (items_meaning OfMqprioOption.family.meaning mqprio_option_equality a.options b.options))

pub fq_codel_equality : IsEqualityOf OfFqCodel.family.meaning FqCodelEq.ghosts.eq
fq_codel_equality =
    table_decides OfFqCodel.table _
    (number also number also number also number also number also number also number also number also number also number also number also kept
    also tt)

pub ingress_equality : IsEqualityOf OfIngress.family.meaning IngressEq.ghosts.eq
ingress_equality = table_decides OfIngress.table _ (kept also tt)

pub stab_equality : IsEqualityOf OfStab.family.meaning StabEq.ghosts.eq
stab_equality = table_decides OfStab.table _ (one size_spec_equality also one stab_data_equality also kept also tt)

pub cake_equality : IsEqualityOf OfCake.family.meaning CakeEq.ghosts.eq
cake_equality =
    table_decides OfCake.table _
    (number also one cake_diffserv_mode_equality also one cake_atm_equality also one cake_flow_mode_equality also one signed_Decides also
    number also number also number also number also number also number also number also number also number also
    one cake_ack_filter_equality also number also number also kept also tt)
