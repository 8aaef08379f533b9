-- What becomes of frames that are not valid, by the table: `MACSEC_VALIDATE_*` of `linux/if_link.h`.
use Rattle.std.specs.Prelude.{ℕ, List, [], ◌∷◌}
use Rattle.std.proofs.Common.{refl}
use Rattle.npr_base.specs.Layout.{Layout, byte, formed}
use Rattle.npr_base.specs.Numbering.{Numbering}
use Rattle.npr_base.specs.Enumeration.{enumeration}
use Rattle.npr_link_devices.specs.declared.mac_sec_validate.MacSecValidate.{MacSecValidate}
use Rattle.npr_link_devices.specs.declared.mac_sec_validate.MacSecValidate.TheVariants.{Disabled, Check, Strict, Other}
use Rattle.npr_link_devices.specs.contracts.mac_sec_validate.MacSecValidate.{enum}

-- in the order of the variants
abbrev pub mac_sec_validation_rows : List (ℕ × MacSecValidate)
mac_sec_validation_rows =
    (0, Disabled) ∷ (1, Check) ∷ (2, Strict) ∷ []

-- the value that a number reads as, and the number that one is written as
abbrev pub mac_sec_validations : Numbering ℕ MacSecValidate
mac_sec_validations = enumeration enum mac_sec_validation_rows Other (λ f. f.0) (λ d. refl) refl

-- how one is read and written
abbrev pub mac_sec_validation : Layout MacSecValidate
mac_sec_validation = formed byte mac_sec_validations
