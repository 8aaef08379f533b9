-- A list of attributes of another set as a value, and what names the set.
use Rattle.std.specs.Prelude.{List, length}
use Rattle.npr_base.specs.Lists.{AllOf, ReadsList, FirstFault, encodings, first_unfit, list_unfit, list_members, overlong}
use Rattle.npr_base.specs.lemmas.Fit.{none_both}
use Rattle.npr_base.specs.lemmas.List.{ReadsList-one, FirstFault-excludes, ReadsList-known, encodings-read, list-grows}
use Rattle.npr_base.specs.Codec.{Codec}
use Rattle.npr_base.specs.declared.attribute_set.AttributeSet.{AttributeSet}
use Rattle.npr_base.specs.Showing.{shows_list}
use Rattle.npr_base.specs.lemmas.LookBounds.{list-bounded, list-saw}
use Rattle.npr_base.specs.Family.{list_looking, Writing, Reading, fits-small, written_by, unfit_by}
use Rattle.npr_base.specs.Looks.{looked_through}

abbrev pub list_of : {M : Type 0} {w : Writing M} → AttributeSet → Reading w → Codec (List M)
list_of {M} {w} set f = record {
  Reads = ReadsList f.Reads;
  Wrong = λ at bytes e. FirstFault f.Reads f.Faulty bytes e;
  encode = encodings (written_by w);
  unfit = λ kind xs. list_unfit (unfit_by w) (written_by w) xs;
  Holds = AllOf f.Coherent;
  members = record {
    count = list_members w.members;
    looks = looked_through (list_looking f);
    bounded = list-bounded f;
    saw = list-saw f;
  };
  one_reading = λ bytes xs ys p q. ReadsList-one f.Reads f.one_reading bytes xs ys p q;
  no_fault = λ at bytes xs e p q. FirstFault-excludes f.Reads f.Faulty f.no_fault bytes e xs q p;
  reads_holds = λ bytes xs is p. ReadsList-known f.Coherent f.Reads f.reads_coherent bytes xs is p;
  reads_back = λ kind xs all h.
      let fits = none_both (first_unfit (unfit_by w) xs) (overlong (length (encodings (written_by w) xs))) h in
      encodings-read f.Coherent (unfit_by w) (written_by w) f.Reads (fits-small f) f.reads_back xs all fits.0;
  grows = λ bytes xs is p. list-grows (written_by w) f.Reads f.grows bytes xs is p;
  showing = shows_list set 0;
}
