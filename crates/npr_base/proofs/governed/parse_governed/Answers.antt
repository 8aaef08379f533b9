use Rattle.std.proofs.Common.{map}
use Rattle.npr_base.proofs.Sought.{read_under, refused_under}
use Rattle.npr_base.specs.GovernedList.{apart-looks, governed-bounded, sought-bounded}
use Rattle.npr_base.proofs.governed.parse_governed.Goals as goal

pub returns-then-wants_memory-clause-bounded : goal.returns-then-wants_memory-clause-bounded
returns-then-wants_memory-clause-bounded g c =
    let G = g.A.Governed in
    let F = g.A.Attribute in
    sought-bounded G.tells G.untold F.family.reading c.args.bytes.now c.sought-context.result c.args.looks.now
    c.sought-context.new.looks c.sought-context.ensures

pub returns-clause-exact : goal.returns-clause-exact
returns-clause-exact g c = λ answered.
    let G = g.A.Governed in
    let F = g.A.Attribute in
    apart-looks G.tells G.untold F.family.reading c.args.bytes.now c.sought-context.result c.args.looks.now
    c.sought-context.new.looks c.parse_list-read.new.looks c.add.new.self c.sought-context.ensures
    (rw c.new-inside.ensures at (c.parse_list-read.ensures.exact answered)) c.add.ensures

pub returns-clause-refused : goal.returns-clause-refused
returns-clause-refused g c =
    let G = g.A.Governed in
    let F = g.A.Attribute in
    refused_under G.tells G.untold F.family.reading g.met.A.GovernedList.plain c.args.bytes.now c.sought-context.result c.args.looks.now
    c.sought-context.new.looks c.sought-context.ensures c.parse_list-read.result c.parse_list-read.ensures.refused

pub returns-then-wants_memory-clause-exact : goal.returns-then-wants_memory-clause-exact
returns-then-wants_memory-clause-exact g c = λ answered. absurd (c.wants_memory.ensures.refused c.if-wants_memory.true answered)

pub returns-then-wants_memory-clause-refused : goal.returns-then-wants_memory-clause-refused
returns-then-wants_memory-clause-refused g c =
    let G = g.A.Governed in
    let F = g.A.Attribute in
    refused_under G.tells G.untold F.family.reading g.met.A.GovernedList.plain c.args.bytes.now c.sought-context.result c.args.looks.now
    c.sought-context.new.looks c.sought-context.ensures c.parse_list-read.result c.parse_list-read.ensures.refused

pub returns-clause-bounded : goal.returns-clause-bounded
returns-clause-bounded g c =
    let G = g.A.Governed in
    let F = g.A.Attribute in
    governed-bounded G.tells G.untold F.family.reading g.met.A.GovernedList.once c.args.bytes.now c.args.looks.now c.add.new.self
    (returns-clause-exact g c (c.wants_memory.ensures.answered c.if-wants_memory.false))

pub returns-clause-ok : goal.returns-clause-ok
returns-clause-ok g c =
    let G = g.A.Governed in
    let F = g.A.Attribute in
    read_under G.tells G.untold F.family.reading g.met.A.GovernedList.plain (λ v. map F.family.meaning v.items) c.args.bytes.now
    c.sought-context.result c.args.looks.now c.sought-context.new.looks c.sought-context.ensures c.parse_list-read.result c.parse_list-read.ensures.ok

pub returns-then-wants_memory-clause-ok : goal.returns-then-wants_memory-clause-ok
returns-then-wants_memory-clause-ok g c =
    let G = g.A.Governed in
    let F = g.A.Attribute in
    read_under G.tells G.untold F.family.reading g.met.A.GovernedList.plain (λ v. map F.family.meaning v.items) c.args.bytes.now
    c.sought-context.result c.args.looks.now c.sought-context.new.looks c.sought-context.ensures c.parse_list-read.result c.parse_list-read.ensures.ok
