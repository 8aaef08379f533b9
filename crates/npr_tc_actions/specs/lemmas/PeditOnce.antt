-- What an action that edits packets says is read with one failed look at most.
use Rattle.npr_base.specs.lemmas.Fails.{FailsOnce, list-once, rows-once}
use Rattle.npr_tc_actions.specs.PeditKeyEx as OfKeyEx
use Rattle.npr_tc_actions.specs.PeditKeysEx as OfKeysEx
use Rattle.npr_tc_actions.specs.PeditOption as OfPedit
use Rattle.npr_tc_actions.specs.contracts.pedit_key_ex.TcPeditKeyEx.{enum as key_ex_enum}
use Rattle.npr_tc_actions.specs.contracts.pedit_keys_ex.TcPeditKeysEx.{enum as keys_ex_enum}
use Rattle.npr_tc_actions.specs.contracts.pedit_option.TcActionPeditOption.{enum as pedit_enum}

key_ex_once : FailsOnce OfKeyEx.attributes.looks
unfolding OfKeyEx.attributes
key_ex_once = rows-once key_ex_enum.parts OfKeyEx.table.rows tt

keys_ex_once : FailsOnce OfKeysEx.attributes.looks
unfolding OfKeysEx.attributes
keys_ex_once = rows-once keys_ex_enum.parts OfKeysEx.table.rows (list-once OfKeyEx.attributes key_ex_once, tt)

pub pedit_once : FailsOnce OfPedit.attributes.looks
unfolding OfPedit.attributes
pedit_once = rows-once pedit_enum.parts OfPedit.table.rows (list-once OfKeysEx.attributes keys_ex_once, tt)
