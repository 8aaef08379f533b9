-- Actions (linux/pkt_cls.h): in a list of actions each attribute is one, whose number is its place, and whose value is a list of
-- attributes under its own kind.
use Rattle.std.proofs.Common.{List, map}
use Rattle.npr_base.specs.Codec.{Codec}
use Rattle.npr_base.specs.declared.attribute_set.AttributeSet.TheVariants.{TcAction as AtTcAction, TcActions as AtTcActions}
use Rattle.npr_base.specs.Family.{Reading, Family}
use Rattle.npr_base.specs.GovernedList.{governed_list}
use Rattle.npr_base.specs.ListCodec.{list_of}
use Rattle.npr_tc_actions.specs.Attribute as OfAttribute
use Rattle.npr_tc_actions.specs.declared.action.TcAction.{TcAction}
use Rattle.npr_tc_actions.specs.declared.form.TcActionForm.TheVariants.{Kept}
use Rattle.npr_tc_actions.specs.lemmas.Once.{attributes_once, attributes_plain}
use Rattle.npr_tc_values.specs.Numbered as Of
use Rattle.npr_tc_values.specs.Numbered.{Numbered}

-- the attributes of one, under the first kind among them
abbrev pub action_list : Codec (List OfAttribute.Meaning)
action_list =
    governed_list OfAttribute.tells Kept OfAttribute.told OfAttribute.attributes OfAttribute.alike attributes_plain attributes_once AtTcAction

-- what an action is, without where it lies in memory
abbrev pub Meaning : Type 0
Meaning = Numbered (List OfAttribute.Meaning)

abbrev pub meaning : TcAction → Meaning
meaning a = record { number = a.tab; value = map OfAttribute.family.meaning a.attributes.items }

abbrev pub attributes : Reading (Of.writing AtTcActions action_list)
attributes = Of.numbered AtTcActions action_list

abbrev pub family : Family TcAction (Unit {0})
family = record { Meaning = Meaning; meaning = meaning; writing = Of.writing AtTcActions action_list; reading = λ c. attributes }

-- a list of them
abbrev pub actions : Codec (List Meaning)
actions = list_of AtTcActions attributes
