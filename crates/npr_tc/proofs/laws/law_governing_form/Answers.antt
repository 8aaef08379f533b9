use Rattle.npr_base.specs.lemmas.FirstTold.{governs-one, first_governs}
use Rattle.npr_tc_values.specs.declared.form.TcForm.TheVariants.{Kept}
use Rattle.npr_tc.specs.Attribute.{alike, attributes, tells, told}
use Rattle.npr_tc.proofs.laws.law_governing_form.Goals as goal

pub returns : goal.returns
returns c = record {
  one = λ a b bytes p q. governs-one tells Kept bytes a b p q;
  first = λ h bytes xs p. first_governs tells Kept told (attributes p.0).Reads (alike p.0) bytes xs p.2;
}
