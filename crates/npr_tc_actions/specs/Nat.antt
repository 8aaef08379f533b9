-- How an action changes addresses (linux/tc_act/tc_nat.h, struct tc_nat).
use Rattle.std.specs.Prelude.{pos, [], ◌∷◌}
use Rattle.std.proofs.Common.{refl}
use Rattle.npr_base.specs.Fields.{le_four, ◌holding◌, ◌fills◌, ◌then◌, last, structure}
use Rattle.npr_base.specs.Layout.{Layout}
use Rattle.npr_base.specs.MoreFields.{bytes_field}
use Rattle.npr_tc_actions.specs.Generic.{generic_field}
use Rattle.npr_tc_actions.specs.NatFlags.{nat_flag_bits}
use Rattle.npr_tc_actions.specs.contracts.nat.TcNat.{struct}
use Rattle.npr_tc_actions.specs.declared.action_type.TcActionType.TheVariants.{Unspec}
use Rattle.npr_tc_actions.specs.declared.nat.TcNat.{TcNat}

-- what every action has, three addresses, and the flags, little endian
abbrev pub nat : Layout TcNat
nat =
    structure struct
    (TcNat.generic fills generic_field then TcNat.old_addr fills bytes_field 4 then TcNat.new_addr fills bytes_field 4 then TcNat.mask fills bytes_field 4
    then last (TcNat.flags fills (le_four holding nat_flag_bits))) refl (λ v. tt)

abbrev pub default_nat : TcNat
default_nat = record {
  generic = record { index = 0; capab = 0; action = Unspec; refcnt = pos 0; bindcnt = pos 0 };
  old_addr = 0 ∷ 0 ∷ 0 ∷ 0 ∷ [];
  new_addr = 0 ∷ 0 ∷ 0 ∷ 0 ∷ [];
  mask = 0 ∷ 0 ∷ 0 ∷ 0 ∷ [];
  flags = nat_flag_bits.of 0;
}
