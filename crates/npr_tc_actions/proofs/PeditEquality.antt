-- What `==` answers of an action that edits packets: whether two values are equal, or mean the same.
use Rattle.std.specs.Cmp.{unsigned_Decides}
use Rattle.std.proofs.Common.{List, refl, ap}
use Rattle.npr_base.proofs.EqualityLaws.{enum_equality, one_equality}
use Rattle.npr_base.proofs.FieldEquality.{one, list, kept}
use Rattle.npr_base.proofs.MeaningLaws.{items_equality}
use Rattle.npr_base.proofs.StructLaws.{and_decides, decides_as, ◌beside◌, struct_equality}
use Rattle.npr_base.specs.EnumTable.{◌also◌}
use Rattle.npr_base.specs.Equality.{IsEquality, IsEqualityOf}
use Rattle.npr_base.specs.Tables.{table_decides}
use Rattle.npr_tc_actions.proofs.ValueEquality.{generic_equality, times_equality}
use Rattle.npr_tc_actions.specs.PeditKeyEx as OfKeyEx
use Rattle.npr_tc_actions.specs.PeditKeysEx as OfKeysEx
use Rattle.npr_tc_actions.specs.PeditOption as OfPedit
use Rattle.npr_tc_actions.specs.PeditSelector.{PeditFront, pedit_parts}
use Rattle.npr_tc_actions.specs.contracts.pedit_command.TcPeditCommand.{enum as command_enum}
use Rattle.npr_tc_actions.specs.contracts.pedit_command.TcPeditCommandPartialEq.TheImpl as CommandEq
use Rattle.npr_tc_actions.specs.contracts.pedit_header_type.TcPeditHeaderType.{enum as header_type_enum}
use Rattle.npr_tc_actions.specs.contracts.pedit_header_type.TcPeditHeaderTypePartialEq.TheImpl as HeaderTypeEq
use Rattle.npr_tc_actions.specs.contracts.pedit_key.TcPeditKey.{struct as key_struct}
use Rattle.npr_tc_actions.specs.contracts.pedit_key.TcPeditKeyPartialEq.TheImpl as KeyEq
use Rattle.npr_tc_actions.specs.contracts.pedit_key_ex.TcPeditKeyExPartialEq.TheImpl as KeyExEq
use Rattle.npr_tc_actions.specs.contracts.pedit_keys_ex.TcPeditKeysExPartialEq.TheImpl as KeysExEq
use Rattle.npr_tc_actions.specs.contracts.pedit_option.TcActionPeditOptionPartialEq.TheImpl as PeditEq
use Rattle.npr_tc_actions.specs.contracts.pedit_selector.TcPeditSelectorPartialEq.TheImpl as SelectorEq
use Rattle.npr_tc_actions.specs.declared.pedit_key.TcPeditKey.{TcPeditKey}

-- ---- values

pub pedit_header_type_equality : IsEquality HeaderTypeEq.ghosts.eq
pedit_header_type_equality = enum_equality header_type_enum _ refl (one_equality unsigned_Decides, tt)

pub pedit_command_equality : IsEquality CommandEq.ghosts.eq
pedit_command_equality = enum_equality command_enum _ refl (one_equality unsigned_Decides, tt)

pub pedit_key_equality : IsEquality KeyEq.ghosts.eq
pedit_key_equality =
    struct_equality key_struct (λ v. tt) (λ d. refl)
    (unsigned_Decides beside unsigned_Decides beside unsigned_Decides beside unsigned_Decides beside unsigned_Decides beside
    one_equality unsigned_Decides)

abbrev Selector : Type 0
Selector = PeditFront × List TcPeditKey

-- what every action has, the numbers, and the keys
pub pedit_selector_equality : IsEqualityOf pedit_parts SelectorEq.ghosts.eq
pedit_selector_equality a b =
    decides_as (λ p. λ i. ((p.0 i, (p.1.0 i, p.1.1.0 i)), p.1.1.1 i))
    (λ e. (ap (λ (s : Selector). s.0.0) e, (ap (λ (s : Selector). s.0.1.0) e, (ap (λ (s : Selector). s.0.1.1) e, ap (λ (s : Selector). s.1) e))))
    (and_decides (generic_equality a.generic b.generic) (and_decides (unsigned_Decides a.nkeys b.nkeys)
    (and_decides (unsigned_Decides a.flags b.flags) (items_equality pedit_key_equality a.keys b.keys))))

-- ---- sets

pub pedit_key_ex_equality : IsEqualityOf OfKeyEx.family.meaning KeyExEq.ghosts.eq
pedit_key_ex_equality = table_decides OfKeyEx.table _ (one pedit_header_type_equality also one pedit_command_equality also kept also tt)

pub pedit_keys_ex_equality : IsEqualityOf OfKeysEx.family.meaning KeysExEq.ghosts.eq
pedit_keys_ex_equality = table_decides OfKeysEx.table _ (list pedit_key_ex_equality also kept also tt)

pub pedit_option_equality : IsEqualityOf OfPedit.family.meaning PeditEq.ghosts.eq
pedit_option_equality =
    table_decides OfPedit.table _
    (one times_equality also one pedit_selector_equality also one pedit_selector_equality also list pedit_keys_ex_equality also kept also tt)
