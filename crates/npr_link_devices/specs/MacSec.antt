-- The data of a link of MACsec (linux/if_link.h, IFLA_MACSEC_*), by the table.
use Rattle.npr_base.specs.declared.attribute_set.AttributeSet.TheVariants.{InfoMacSec as AtInfoMacSec}
use Rattle.npr_base.specs.Tables.{EnumTable, table_of, row, others, ◌or◌, be16, be64, byte, exactly, le32, value}
use Rattle.npr_base.specs.Tables.{refl, Reading, Family, writing_of, attributes_of, family_of_table}
use Rattle.npr_link_devices.specs.MacSecCipher.{mac_sec_cipher}
use Rattle.npr_link_devices.specs.MacSecOffload.{mac_sec_offload}
use Rattle.npr_link_devices.specs.MacSecValidate.{mac_sec_validation}
use Rattle.npr_link_devices.specs.contracts.mac_sec.InfoMacSec.{enum}
use Rattle.npr_link_devices.specs.declared.mac_sec.InfoMacSec.{InfoMacSec}

-- the table, in the order of the variants
abbrev pub table : EnumTable enum
table =
    table_of enum (
    row AtInfoMacSec 1 (exactly be64) (value InfoMacSec.Sci)  -- IFLA_MACSEC_SCI
    or row AtInfoMacSec 2 (exactly be16) (value InfoMacSec.Port)  -- IFLA_MACSEC_PORT
    or row AtInfoMacSec 3 (exactly byte) (value InfoMacSec.IcvLen)  -- IFLA_MACSEC_ICV_LEN
    or row AtInfoMacSec 4 (exactly mac_sec_cipher) (value InfoMacSec.CipherSuite)  -- IFLA_MACSEC_CIPHER_SUITE
    or row AtInfoMacSec 5 (exactly le32) (value InfoMacSec.Window)  -- IFLA_MACSEC_WINDOW
    or row AtInfoMacSec 6 (exactly byte) (value InfoMacSec.EncodingSa)  -- IFLA_MACSEC_ENCODING_SA
    or row AtInfoMacSec 7 (exactly byte) (value InfoMacSec.Encrypt)  -- IFLA_MACSEC_ENCRYPT
    or row AtInfoMacSec 8 (exactly byte) (value InfoMacSec.Protect)  -- IFLA_MACSEC_PROTECT
    or row AtInfoMacSec 9 (exactly byte) (value InfoMacSec.IncSci)  -- IFLA_MACSEC_INC_SCI
    or row AtInfoMacSec 10 (exactly byte) (value InfoMacSec.Es)  -- IFLA_MACSEC_ES
    or row AtInfoMacSec 11 (exactly byte) (value InfoMacSec.Scb)  -- IFLA_MACSEC_SCB
    or row AtInfoMacSec 12 (exactly byte) (value InfoMacSec.ReplayProtect)  -- IFLA_MACSEC_REPLAY_PROTECT
    or row AtInfoMacSec 13 (exactly mac_sec_validation) (value InfoMacSec.Validation)  -- IFLA_MACSEC_VALIDATION
    or row AtInfoMacSec 15 (exactly mac_sec_offload) (value InfoMacSec.Offload)  -- IFLA_MACSEC_OFFLOAD
    or others (value InfoMacSec.Other)) refl refl

-- the family
unfoldable pub attributes : Reading (writing_of table)
attributes = attributes_of table

abbrev pub family : Family InfoMacSec (Unit {0})
family = family_of_table table (λ c. attributes)
