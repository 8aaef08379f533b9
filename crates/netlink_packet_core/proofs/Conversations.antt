-- A conversation answers what its definition says.
use Rattle.std.specs.Prelude.{map, ◌⊎◌}
use Rattle.std.proofs.Common.{◌≡◌, ℕ, Bool, true, false, List, [], ◌∷◌, ◌++◌, Result, refl, sym, ap, subst, ◌∙◌, inl, inr}
use Rattle.std.proofs.lemmas.List.{map-append}
use Rattle.netlink_packet_core.specs.Envelope.{Envelope, Tail}
use Rattle.netlink_packet_core.specs.Walk.{start, EnvelopeSteps}
use Rattle.netlink_packet_core.specs.Conversation.{Talk, Event, event_of, said, after, answers, kept, Talks, TalksOver, Stand}
use Rattle.netlink_packet_core.specs.declared.refusal.EnvelopeError.{EnvelopeError}
use Rattle.netlink_packet_core.specs.declared.conversation.Answer.{Answer}
use Rattle.netlink_packet_core.proofs.Walks.{no_step_past_the_end, Step-same}

abbrev Steps : Type 0
Steps = List (Result Envelope EnvelopeError)

-- after the end nothing is answered, and nothing changes
pub over-nothing : (t : Talk) (steps : Steps) → t.over ≡ true → answers t steps ≡ []
over-nothing t [] e = refl
over-nothing t (s ∷ steps) e = rw e refl

over-kept : (t : Talk) (steps : Steps) → t.over ≡ true → kept t steps ≡ t
over-kept t [] e = refl
over-kept t (s ∷ steps) e = rw e refl

-- before it each is said
open-says : (t : Talk) (s : Result Envelope EnvelopeError) (steps : Steps) → t.over ≡ false → answers t (s ∷ steps) ≡ said t s ∷ answers (after t s) steps
open-says t s steps e = rw e refl

open-keeps : (t : Talk) (s : Result Envelope EnvelopeError) (steps : Steps) → t.over ≡ false → kept t (s ∷ steps) ≡ kept (after t s) steps
open-keeps t s steps e = rw e refl

-- over one datagram
none-left : (steps : Steps) (t : Talk) (place last : Tail) → EnvelopeSteps place steps last → place.bytes ≡ [] → (answers t steps ≡ []) × (kept t steps ≡ t)
none-left [] t place last p empty = (refl, refl)
none-left (s ∷ steps) t place last (mid, step, p) empty = absurd (no_step_past_the_end place s mid empty step)

none-said : (steps : Steps) (t : Talk) (place last : Tail) → EnvelopeSteps place steps last → (t.over ≡ true) ⊎ ((t.over ≡ false) × (place.bytes ≡ []))
    → (answers t steps ≡ []) × (kept t steps ≡ t)
none-said steps t place last p (inl over) = (over-nothing t steps over, over-kept t steps over)
none-said steps t place last p (inr (still, empty)) = none-left steps t place last p empty

Talks-once : (given : List Answer) (steps : Steps) (t u : Talk) (place last : Tail) → EnvelopeSteps place steps last → last.bytes ≡ []
    → Talks t place given u → (map event_of given ≡ answers t steps) × (u ≡ kept t steps)
Talks-once [] steps t u place last p end (more, (same, moved, why)) = let h = none-said steps t place last p why in (sym h.0, same ∙ sym h.1)
Talks-once (a ∷ given) [] t u place last p end (v, more, (still, (s, step, says, keeps)), rest) =
    absurd (no_step_past_the_end place s more (ap (λ (w : Tail). w.bytes) p ∙ end) step)
Talks-once (a ∷ given) (r ∷ steps) t u place last (mid, walked, p) end (v, more, (still, (s, step, says, keeps)), rest) =
    let same = Step-same place s r more mid step walked in
    let talks : Talks (after t r) mid given u
    = subst (λ (w : Tail). Talks (after t r) w given u) same.1 (subst (λ (w : Talk). Talks w more given u) (keeps ∙ ap (after t) same.0) rest) in
    let h = Talks-once given steps (after t r) u mid last p end talks in
    let first : event_of a ≡ said t r = says ∙ ap (said t) same.0 in (
      (λ i. first i ∷ h.0 i) ∙ sym (open-says t r steps still),
      h.1 ∙ sym (open-keeps t r steps still),
    )

-- what is said of steps and then of others
said-then : (b : Bool) (s : Result Envelope EnvelopeError) (first later : Steps) (t : Talk) → t.over ≡ b
    → answers (after t s) (first ++ later) ≡ answers (after t s) first ++ answers (kept (after t s) first) later
    → answers t (s ∷ (first ++ later)) ≡ answers t (s ∷ first) ++ answers (kept t (s ∷ first)) later
said-then true s first later t e h =
    over-nothing t (s ∷ (first ++ later)) e
    ∙ sym (λ i. over-nothing t (s ∷ first) e i ++ (ap (λ (w : Talk). answers w later) (over-kept t (s ∷ first) e) ∙ over-nothing t later e) i)
said-then false s first later t e h =
    open-says t s (first ++ later) e ∙ ap (λ (w : List Event). said t s ∷ w) h
    ∙ sym (λ i. open-says t s first e i ++ answers (open-keeps t s first e i) later)

answers-append : (first later : Steps) (t : Talk) → answers t (first ++ later) ≡ answers t first ++ answers (kept t first) later
answers-append [] later t = refl
answers-append (s ∷ first) later t = said-then t.over s first later t refl (answers-append first later (after t s))

kept-then : (b : Bool) (s : Result Envelope EnvelopeError) (first later : Steps) (t : Talk) → t.over ≡ b
    → kept (after t s) (first ++ later) ≡ kept (kept (after t s) first) later → kept t (s ∷ (first ++ later)) ≡ kept (kept t (s ∷ first)) later
kept-then true s first later t e h =
    over-kept t (s ∷ (first ++ later)) e ∙ sym (ap (λ (w : Talk). kept w later) (over-kept t (s ∷ first) e) ∙ over-kept t later e)
kept-then false s first later t e h = open-keeps t s (first ++ later) e ∙ h ∙ sym (ap (λ (w : Talk). kept w later) (open-keeps t s first e))

kept-append : (first later : Steps) (t : Talk) → kept t (first ++ later) ≡ kept (kept t first) later
kept-append [] later t = refl
kept-append (s ∷ first) later t = kept-then t.over s first later t refl (kept-append first later (after t s))

-- over datagrams one after the other
pub Talks-over : (datagrams : List (List ℕ)) (t : Talk) (steps : Steps) (given : List Answer) (u : Talk) → Stand datagrams steps
    → TalksOver t datagrams given u → (map event_of given ≡ answers t steps) × (u ≡ kept t steps)
Talks-over [] t steps given u none (nothing, same) =
    (ap (map event_of) nothing ∙ sym (ap (answers t) none), same ∙ sym (ap (kept t) none))
Talks-over (datagram ∷ datagrams) t steps given u (first, later, parts, (last, walk, end), stand) (xs, ys, v, given_is, talks, rest) =
    let one = Talks-once xs first t v (start datagram) last walk end talks in
    let more = Talks-over datagrams v later ys u stand rest in
    let both : map event_of given ≡ answers t (first ++ later)
    = ap (map event_of) given_is ∙ map-append event_of xs ys ∙ (λ i. one.0 i ++ (more.0 ∙ ap (λ (w : Talk). answers w later) one.1) i) ∙ sym (answers-append first later t) in
    let keeps : u ≡ kept t (first ++ later) = more.1 ∙ ap (λ (w : Talk). kept w later) one.1 ∙ sym (kept-append first later t) in
    (both ∙ sym (ap (answers t) parts), keeps ∙ sym (ap (kept t) parts))
