-- The attributes of a message of actions (linux/rtnetlink.h, TCA_ROOT_*), by the table.
use Rattle.npr_base.specs.declared.attribute_set.AttributeSet.TheVariants.{TcActionMessage as AtTcActionMessage, TcActions as AtTcActions}
use Rattle.npr_base.specs.Tables.{EnumTable, table_of, row, others, ◌or◌, exactly, list_of, name, le32, value, text, listed, refl, Reading, Family}
use Rattle.npr_base.specs.Tables.{writing_of, attributes_of, family_of_table}
use Rattle.npr_tc_actions.specs.Action as OfAction
use Rattle.npr_tc.specs.ActionFlags.{with_selector}
use Rattle.npr_tc.specs.contracts.action_attribute.TcActionMessageAttribute.{enum}
use Rattle.npr_tc.specs.declared.action_attribute.TcActionMessageAttribute.{TcActionMessageAttribute}

-- the table, in the order of the variants
abbrev pub table : EnumTable enum
table =
    table_of enum (
    row AtTcActionMessage 1 (list_of AtTcActions OfAction.attributes) (listed OfAction.family.meaning TcActionMessageAttribute.Actions)  -- TCA_ROOT_TAB
    or row AtTcActionMessage 2 (exactly with_selector) (value TcActionMessageAttribute.Flags)  -- TCA_ROOT_FLAGS
    or row AtTcActionMessage 3 (exactly le32) (value TcActionMessageAttribute.RootCount)  -- TCA_ROOT_COUNT
    or row AtTcActionMessage 4 (exactly le32) (value TcActionMessageAttribute.RootTimeDelta)  -- TCA_ROOT_TIME_DELTA
    or row AtTcActionMessage 5 name (text TcActionMessageAttribute.RootExtWarnMsg)  -- TCA_ROOT_EXT_WARN_MSG
    or others (value TcActionMessageAttribute.Other)) refl refl

-- the family
unfoldable pub attributes : Reading (writing_of table)
attributes = attributes_of table

abbrev pub family : Family TcActionMessageAttribute (Unit {0})
family = family_of_table table (λ c. attributes)
