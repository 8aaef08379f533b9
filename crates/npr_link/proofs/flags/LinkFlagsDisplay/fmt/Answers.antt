use Rattle.std.proofs.Common.{codes, Some, ◌∷◌, [], ◌++◌, bit_and}
use Rattle.std.proofs.Output.{displays_on_ok_of_eq}
use Rattle.npr_base.specs.Text.{joined_by}
use Rattle.npr_link.specs.Flags.{names_set, unnamed_text}
use Rattle.npr_link.proofs.flags.LinkFlagsDisplay.fmt.Goals as goal

pub returns-clause-writes : goal.returns-clause-writes
returns-clause-writes g c =
    displays_on_ok_of_eq g.W.Write.write_str_gives c.args.f.now c.write_flags.new.f c.write_flags.result _ _
    (λ i. joined_by (codes " | ") Some (names_set (
    (c.contains.ensures tt i, codes "Up") ∷ (c.contains-2.ensures tt i, codes "Broadcast") ∷ (c.contains-3.ensures tt i, codes "Debug")
    ∷ (c.contains-4.ensures tt i, codes "Loopback") ∷ (c.contains-5.ensures tt i, codes "Pointopoint")
    ∷ (c.contains-6.ensures tt i, codes "Notrailers") ∷ (c.contains-7.ensures tt i, codes "Running")
    ∷ (c.contains-8.ensures tt i, codes "Noarp") ∷ (c.contains-9.ensures tt i, codes "Promisc")
    ∷ (c.contains-10.ensures tt i, codes "Allmulti") ∷ (c.contains-11.ensures tt i, codes "Controller")
    ∷ (c.contains-12.ensures tt i, codes "Port") ∷ (c.contains-13.ensures tt i, codes "Multicast")
    ∷ (c.contains-14.ensures tt i, codes "Portsel") ∷ (c.contains-15.ensures tt i, codes "Automedia")
    ∷ (c.contains-16.ensures tt i, codes "Dynamic") ∷ (c.contains-17.ensures tt i, codes "LowerUp")
    ∷ (c.contains-18.ensures tt i, codes "Dormant") ∷ (c.contains-19.ensures tt i, codes "Echo") ∷ []
    ) ++ unnamed_text (bit_and c.args.self.now.0 4294443008)))
    c.write_flags.ensures
