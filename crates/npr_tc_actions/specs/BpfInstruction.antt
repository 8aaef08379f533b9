-- An instruction of a classic program (linux/filter.h, struct sock_filter): a number of 2, two bytes, and a number of 4.
use Rattle.std.specs.Prelude.{List}
use Rattle.std.proofs.Common.{refl, lit<}
use Rattle.npr_base.specs.Blocks.{Width, blocks}
use Rattle.npr_base.specs.Codec.{Codec}
use Rattle.npr_base.specs.Fields.{one_byte, le_two, le_four, ◌fills◌, ◌then◌, last, structure}
use Rattle.npr_base.specs.Layout.{Layout}
use Rattle.npr_tc_actions.specs.contracts.bpf_instruction.TcBpfInstruction.{struct}
use Rattle.npr_tc_actions.specs.declared.bpf_instruction.TcBpfInstruction.{TcBpfInstruction}

-- in this order, little endian
abbrev pub instruction : Layout TcBpfInstruction
instruction =
    structure struct
    (TcBpfInstruction.code fills le_two then TcBpfInstruction.jt fills one_byte then TcBpfInstruction.jf fills one_byte
    then last (TcBpfInstruction.k fills le_four)) refl (λ v. tt)

-- always in eight bytes
abbrev pub instruction_width : Width TcBpfInstruction
instruction_width = record { layout = instruction; positive = lit< tt; long = λ x. refl; none = record { code = 0; jt = 0; jf = 0; k = 0 } }

-- one behind the other; what is left at the end and too short for one is dropped
abbrev pub instructions : Codec (List TcBpfInstruction)
instructions = blocks instruction (lit< tt)
