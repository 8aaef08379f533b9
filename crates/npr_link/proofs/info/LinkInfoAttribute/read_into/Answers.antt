use Rattle.std.specs.Prelude.{◌≢◌, Result, IfErr}
use Rattle.std.proofs.Common.{◌≡◌, ℕ, List, sym, subst, ◌∙◌}
use Rattle.std.proofs.lemmas.Result.{IfErr-weaker}
use Rattle.npr_base.specs.EnumTable.{WrongIn}
use Rattle.npr_base.specs.Framing.{Item, number_of}
use Rattle.npr_base.specs.Refusal.{at_number, no_place}
use Rattle.npr_base.specs.declared.attribute_set.At.{At}
use Rattle.npr_base.specs.declared.attribute_set.AttributeSet.TheVariants.{LinkInfo}
use Rattle.npr_base.specs.declared.refusal.DecodeError.{DecodeError}
use Rattle.npr_base.specs.declared.refusal.DecodeError.TheVariants.{OutOfMemory}
use Rattle.npr_link.specs.Governing.{Forms}
use Rattle.npr_link.specs.Info.{attributes, table}
use Rattle.npr_link.specs.PortData.{port_data}
use Rattle.npr_link.specs.contracts.info.LinkInfo.{enum}
use Rattle.npr_link.specs.declared.port_data.InfoPortData.{InfoPortData}
use Rattle.npr_link.specs.declared.port_kind.InfoPortForm.{InfoPortForm}
use Rattle.npr_link.proofs.info.LinkInfoAttribute.read_into.Goals as goal

-- data of a port are refused wherever they stand
wrong_at : (form : InfoPortForm) (at place : At) (bytes : List ℕ) (e : DecodeError) → (port_data form).Wrong at bytes e
    → (port_data form).Wrong place bytes e
wrong_at InfoPortForm.Bridge at place bytes e wrong = wrong
wrong_at InfoPortForm.Vrf at place bytes e wrong = wrong
wrong_at InfoPortForm.Bond at place bytes e wrong = wrong
wrong_at InfoPortForm.Kept at place bytes e wrong = wrong

port_wrong : (forms : Forms) (x : Item) (e : DecodeError) → number_of x.kind ≡ 5 → (port_data forms.1).Wrong no_place x.value e
    → (attributes forms).Faulty x e
port_wrong forms x e is wrong =
    subst (λ (n : ℕ). WrongIn enum.parts (table forms).rows n x e) (sym is)
    (wrong_at forms.1 no_place (at_number LinkInfo 5) x.value e wrong)

pub returns-in-5-clause-refused : goal.returns-in-5-clause-refused
returns-in-5-clause-refused g c =
    let x = c.args.item.now in
    let wrong : DecodeError → Type 0 = λ e. e ≢ OutOfMemory → (port_data c.args.forms.1).Wrong no_place c.value-value.result.now e in
    IfErr-weaker c.put_read-in-5.result _ _ (λ e is other.
    let told : wrong e = subst (λ (r : Result InfoPortData DecodeError). IfErr r wrong) is c.read-in-5.ensures.refused in
    port_wrong c.args.forms x e (sym c.kind.ensures ∙ c.in-5.is)
    (subst (λ (b : List ℕ). (port_data c.args.forms.1).Wrong no_place b e) c.value-value.ensures (told other)))
    c.put_read-in-5.ensures.refused
