-- Options of Geneve as a value, with its laws.
use Rattle.std.proofs.Common.{ℕ, false, List, length}
use Rattle.npr_base.specs.Looks.{Looking, looked_through}
use Rattle.npr_encapsulation.specs.lemmas.GeneveLooks.{looks-one, looks-add, options-bounded, options-saw}
use Rattle.npr_encapsulation.specs.GeneveLooks.{OptionsLooks}
use Rattle.npr_base.specs.Codec.{Codec}
use Rattle.npr_base.specs.Showing.{shows_inside}
use Rattle.npr_base.specs.Lists.{AllOf}
use Rattle.npr_encapsulation.specs.Geneve.{Geneve, AreOptions, OptionsFault, option_bytes, options_unfit, IsOption}
use Rattle.npr_encapsulation.specs.lemmas.Geneve.{options-one, options-sound, options-known, options-back, options-grow}

-- of a list, where none is open yet
abbrev pub options_looking : Looking (List ℕ)
options_looking = record { Takes = OptionsLooks false; one = looks-one; adds = looks-add }

abbrev pub geneve_options : Codec (List Geneve)
geneve_options = record {
  Reads = AreOptions;
  Wrong = λ at bytes e. OptionsFault bytes e;
  encode = option_bytes;
  unfit = λ kind os. options_unfit os;
  Holds = AllOf IsOption;
  members = record { count = length; looks = looked_through options_looking; bounded = options-bounded; saw = options-saw };
  one_reading = options-one;
  no_fault = options-sound;
  reads_holds = options-known;
  reads_back = options-back;
  grows = options-grow;
  showing = shows_inside;
}
