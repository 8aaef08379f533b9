-- Options of a bridge: every bit is kept (BR_BOOLOPT_* of linux/if_bridge.h, each by the bit of its number).
use Rattle.std.specs.Prelude.{ℕ}
use Rattle.std.proofs.Common.{refl}
use Rattle.npr_base.specs.Fields.{le_four, ◌holding◌, ◌fills◌, ◌then◌, last, structure}
use Rattle.npr_base.specs.Layout.{Layout}
use Rattle.npr_base.specs.Numbering.{Numbering}
use Rattle.npr_link_bridge.specs.contracts.boolean_options.BridgeBooleanOptions.{struct}
use Rattle.npr_link_bridge.specs.declared.boolean_options.BridgeBooleanOptions.{BridgeBooleanOptions}
use Rattle.npr_link_bridge.specs.declared.boolean_options.BridgeBooleanOptionFlags.{BridgeBooleanOptionFlags}

-- the set of these bits, and the bits of a set
abbrev pub boolean_option_bits : Numbering ℕ BridgeBooleanOptionFlags
boolean_option_bits = record { of = λ bits. record { 0 = bits }; number = λ flags. flags.0; back = λ bits. refl }

-- options, and which of them are meant (linux/if_bridge.h, struct br_boolopt_multi): four bytes each, little endian
abbrev pub boolean_options : Layout BridgeBooleanOptions
boolean_options =
    structure struct
    (BridgeBooleanOptions.value fills le_four holding boolean_option_bits
    then last (BridgeBooleanOptions.mask fills le_four holding boolean_option_bits)) refl (λ v. tt)
