-- Under which kinds counters are kept as they stand.
use Rattle.std.proofs.Common.{◌≢◌, refl, ◌≡◌}
use Rattle.npr_base.specs.Choices.{bytes_case}
use Rattle.npr_tc_values.specs.Xstats.{case, held, other}
use Rattle.npr_tc_values.specs.declared.form.TcForm.{TcForm}

-- the kind has no counters of its own
pub record IsPlain (form : TcForm) : Type 0 where
  pub fq_codel : form ≢ TcForm.FqCodel
  pub htb : form ≢ TcForm.Htb
  pub fq : form ≢ TcForm.Fq
  pub red : form ≢ TcForm.Red
  pub netem : form ≢ TcForm.Netem
  pub sfq : form ≢ TcForm.Sfq
  pub cake : form ≢ TcForm.Cake

-- bytes are kept under each such kind
pub kept_under : (form : TcForm) → IsPlain form → case form ≡ bytes_case held other (λ bytes. refl)
kept_under TcForm.FqCodel plain = absurd (plain.fq_codel refl)
kept_under TcForm.Htb plain = absurd (plain.htb refl)
kept_under TcForm.Fq plain = absurd (plain.fq refl)
kept_under TcForm.Red plain = absurd (plain.red refl)
kept_under TcForm.Netem plain = absurd (plain.netem refl)
kept_under TcForm.Sfq plain = absurd (plain.sfq refl)
kept_under TcForm.Cake plain = absurd (plain.cake refl)
kept_under TcForm.Kept plain = refl
kept_under TcForm.Ingress plain = refl
kept_under TcForm.Clsact plain = refl
kept_under TcForm.U32 plain = refl
kept_under TcForm.Flower plain = refl
kept_under TcForm.MatchAll plain = refl
kept_under TcForm.Tbf plain = refl
kept_under TcForm.Prio plain = refl
kept_under TcForm.Fifo plain = refl
kept_under TcForm.Fw plain = refl
kept_under TcForm.Bpf plain = refl
kept_under TcForm.Basic plain = refl
