-- Options of Geneve as a value, with the laws of both directions.
use Rattle.std.specs.Prelude.{None, min}
use Rattle.std.proofs.Common.{◌≡◌, ℕ, ◌+◌, ◌*◌, ◌%◌, ◌^◌, ◌<◌, ◌≤◌, true, false, List, [], ◌∷◌, ◌++◌, length, refl, sym, ap, subst, ◌∙◌, arith, inl, inr}
use Rattle.std.proofs.Common.{length-append, true≢false}
use Rattle.npr_base.specs.declared.attribute_set.At.{At}
use Rattle.npr_base.specs.declared.refusal.DecodeError.{DecodeError}
use Rattle.npr_base.specs.Lists.{Each, AllOf}
use Rattle.npr_base.specs.Framing.{Item, IsBytes, Front, Passes, framed, encoding, pad}
use Rattle.npr_base.specs.lemmas.Front.{Front-takes}
use Rattle.npr_base.specs.lemmas.List.{length-encoding}
use Rattle.npr_encapsulation.specs.Geneve.{Geneve, Child, class_child, type_child, data_child, ReadsChild}
use Rattle.npr_encapsulation.specs.Geneve.{WrongChild, class_length, type_length, order, child, fresh}
use Rattle.npr_encapsulation.specs.Geneve.{options_behind, AreGroups, AreOptions, OptionsFault, children_of, child_item, option_bytes, options_unfit, IsOption}
use Rattle.npr_encapsulation.specs.GeneveChildren.{IsChild, children_list}
use Rattle.npr_encapsulation.specs.lemmas.GeneveLooks.{options-outside}
use Rattle.npr_encapsulation.specs.GeneveLooks.{BeginsInside}

-- ---- children are one list of options at most

groups-one : (children : List Child) (os ps : List Geneve) → AreGroups children os → AreGroups children ps → os ≡ ps
groups-one [] os ps p q = p ∙ sym q
groups-one (class_child n ∷ cs) os ps p q = p ∙ sym q
groups-one (c ∷ cs) os ps p q = absurd p

pub options-one : (bytes : List ℕ) (os ps : List Geneve) → AreOptions bytes os → AreOptions bytes ps → os ≡ ps
options-one bytes os ps (cs, p, g) (ds, q, h) =
    groups-one cs os ps g (subst (λ (c : List Child). AreGroups c ps) (sym (children_list.one_reading bytes cs ds p q)) h)

-- ---- what is wrong is no list of options

-- a child that is wrong before a class is wrong behind one, unless it is a type or data
wrong-outside : (bytes more : List ℕ) (x : Item) (e : DecodeError) → Front bytes x more → (BeginsInside bytes → ⊥) → WrongChild false x e → WrongChild true x e
wrong-outside bytes more x f front outside (class_length e k w) = class_length e k w
wrong-outside bytes more x f front outside (type_length e k o w) = absurd (true≢false (sym o))
wrong-outside bytes more x f front outside (order o k) = absurd (outside (x, more, front, k))
wrong-outside bytes more x f front outside (child i j k) = child i j k

pub options-sound : (at : At) (bytes : List ℕ) (os : List Geneve) (e : DecodeError) → AreOptions bytes os → OptionsFault bytes e → ⊥
options-sound at bytes os e (cs, p, g) (ds, ps, rest, q, h, inl stop) = children_list.no_fault at bytes cs e p (ds, rest, q, inl stop)
options-sound at bytes os e (cs, p, g) (d ∷ ds, ps, rest, q, h, inr bad) = children_list.no_fault at bytes cs e p (d ∷ ds, rest, q, inr bad)
options-sound at bytes os e (cs, p, g) ([], ps, rest, (y ∷ ys, is, each), h, inr bad) = absurd each
options-sound at bytes os e (cs, p, g) ([], ps, rest, ([], is, each), h, inr (x, more, f, w)) =
    let wrong = wrong-outside bytes more x e (subst (λ (b : List ℕ). Front b x more) (sym is) f) (options-outside bytes os (cs, p, g)) w in
    children_list.no_fault at bytes cs e p ([], rest, ([], is, each), inr (x, more, f, wrong))

-- ---- what is read is coherent

fresh-known : (n : ℕ) → n < 2 ^ 16 → IsOption (fresh n)
fresh-known n lt = record { class = lt; typ = omega arith; opt_data = λ i. omega arith }

behind-known : (cs : List Child) (o : Geneve) → AllOf IsChild cs → IsOption o → AllOf IsOption (options_behind o cs)
behind-known [] o h known = (known, tt)
behind-known (class_child n ∷ cs) o h known = (known, behind-known cs (fresh n) h.1 (fresh-known n h.0))
behind-known (type_child n ∷ cs) o h known =
    behind-known cs (record o { typ = n }) h.1 (record { class = known.class; typ = h.0; opt_data = known.opt_data })
behind-known (data_child d ∷ cs) o h known =
    behind-known cs (record o { opt_data = d }) h.1 (record { class = known.class; typ = known.typ; opt_data = h.0 })

groups-known : (children : List Child) (os : List Geneve) → AllOf IsChild children → AreGroups children os → AllOf IsOption os
groups-known [] os h g = rw g tt
groups-known (class_child n ∷ cs) os h g = rw g (behind-known cs (fresh n) h.1 (fresh-known n h.0))
groups-known (c ∷ cs) os h g = absurd g

pub options-known : (bytes : List ℕ) (os : List Geneve) → IsBytes bytes → AreOptions bytes os → AllOf IsOption os
options-known bytes os is (cs, p, g) = groups-known cs os (children_list.reads_holds bytes cs is p) g

-- ---- what is written is read again

children-known : (os : List Geneve) → AllOf IsOption os → AllOf IsChild (children_of os)
children-known [] h = tt
children-known (o ∷ os) h = (h.0.class, (h.0.typ, (h.0.opt_data, children-known os h.1)))

behind-children : (o : Geneve) (os : List Geneve) → options_behind o (children_of os) ≡ o ∷ os
behind-children o [] = refl
behind-children o (p ∷ os) = ap (λ (ps : List Geneve). o ∷ ps) (behind-children p os)

children-groups : (os : List Geneve) → AreGroups (children_of os) os
children-groups [] = refl
children-groups (o ∷ os) = sym (behind-children o os)

pub options-back : (kind : ℕ) (os : List Geneve) → AllOf IsOption os → options_unfit os ≡ None → AreOptions (option_bytes os) os
options-back kind os h fits = (children_of os, children_list.reads_back kind (children_of os) (children-known os h) fits, children-groups os)

-- ---- an option is written as twenty bytes and its data at most

room : Child → ℕ
room (class_child n) = 20
room (type_child n) = 0
room (data_child d) = length d + pad (length d)

rooms : List Child → ℕ
rooms [] = 0
rooms (c ∷ cs) = room c + rooms cs

option-length : (o : Geneve) (os : List Geneve)
    → length (option_bytes (o ∷ os)) ≡ 20 + (length o.opt_data + pad (length o.opt_data)) + length (option_bytes os)
option-length o os =
    let payload = encoding (child_item (data_child o.opt_data)) in
    omega (arith, length-append payload (option_bytes os), length-encoding (child_item (data_child o.opt_data)))

behind-room : (cs : List Child) (o : Geneve)
    → length (option_bytes (options_behind o cs)) ≤ 20 + (length o.opt_data + pad (length o.opt_data)) + rooms cs
unfolding rooms room
behind-room [] o = omega (arith, option-length o [])
behind-room (class_child n ∷ cs) o = omega (arith, option-length o (options_behind (fresh n) cs), behind-room cs (fresh n))
behind-room (type_child n ∷ cs) o = omega (arith, behind-room cs (record o { typ = n }))
behind-room (data_child d ∷ cs) o = omega (arith, behind-room cs (record o { opt_data = d }))

groups-room : (children : List Child) (os : List Geneve) → AreGroups children os → length (option_bytes os) ≤ rooms children
unfolding rooms room
groups-room [] os g = rw g (omega arith)
groups-room (class_child n ∷ cs) os g = rw g (omega (arith, behind-room cs (fresh n)))
groups-room (c ∷ cs) os g = absurd g

child-room : (x : Item) (c : Child) → ReadsChild x c → 2 * room c ≤ 5 * (4 + length x.value) + 5 * min 2 (pad (length x.value))
unfolding room
child-room x (class_child n) p = omega (arith, p.1.0)
child-room x (type_child n) p = omega arith
child-room x (data_child d) p = omega (arith, ap length p.1)

front-length : (bytes : List ℕ) (x : Item) (more : List ℕ) → Front bytes x more → 0 < length more → length bytes ≡ framed (length x.value) + length more
front-length bytes x more f h = omega (arith, ap length f.is, length-append (x.value ++ f.padding) more, length-append x.value f.padding, f.whole h)

rooms-read : (items : List Item) (cs : List Child) (bytes : List ℕ) → Passes bytes items [] → Each ReadsChild items cs
    → 2 * rooms cs ≤ 5 * length bytes + 10 * min 1 (length bytes)
unfolding rooms
rooms-read [] [] bytes p h = omega arith
rooms-read [] (c ∷ cs) bytes p h = absurd h
rooms-read (x ∷ xs) [] bytes p h = absurd h
rooms-read (x ∷ xs) (c ∷ cs) bytes ([], f, p) h = omega (arith, child-room x c h.0, Front-takes bytes x [] f, rooms-read xs cs [] p h.1)
rooms-read (x ∷ xs) (c ∷ cs) bytes (r ∷ rest, f, p) h =
    omega (arith, child-room x c h.0, front-length bytes x (r ∷ rest) f (omega arith), rooms-read xs cs (r ∷ rest) p h.1)

framed-options : (os : List Geneve) → length (option_bytes os) % 4 ≡ 0
framed-options [] = refl
framed-options (o ∷ os) = omega (arith, option-length o os, framed-options os)

pub options-grow : (bytes : List ℕ) (os : List Geneve) → IsBytes bytes → AreOptions bytes os → 2 * framed (length (option_bytes os)) ≤ 5 * (4 + length bytes)
options-grow bytes os is (cs, (items, p, h), g) = omega (arith, rooms-read items cs bytes p h, groups-room cs os g, framed-options os)

-- ---- the options as a value
