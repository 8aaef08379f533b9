use Rattle.npr_link.specs.InfoList.{apart-looks, info-bounded, sought-bounded}
use Rattle.npr_link.proofs.InfoSearch.{read_under, refused_under}
use Rattle.npr_link.proofs.info_list.read_info.Goals as goal

pub returns-then-wants_memory-clause-bounded : goal.returns-then-wants_memory-clause-bounded
returns-then-wants_memory-clause-bounded c =
    sought-bounded c.args.bytes.now c.governing_forms-forms.result c.args.looks.now c.governing_forms-forms.new.looks c.governing_forms-forms.ensures

pub returns-clause-exact : goal.returns-clause-exact
returns-clause-exact c = λ answered.
    apart-looks c.args.bytes.now c.governing_forms-forms.result c.args.looks.now c.governing_forms-forms.new.looks c.parse_list-read.new.looks
    c.add.new.self c.governing_forms-forms.ensures (rw c.new-inside.ensures at (c.parse_list-read.ensures.exact answered)) c.add.ensures

pub returns-clause-refused : goal.returns-clause-refused
returns-clause-refused c =
    refused_under c.args.bytes.now c.governing_forms-forms.result c.args.looks.now c.governing_forms-forms.new.looks c.governing_forms-forms.ensures
    c.parse_list-read.result c.parse_list-read.ensures.refused

pub returns-then-wants_memory-clause-exact : goal.returns-then-wants_memory-clause-exact
returns-then-wants_memory-clause-exact c = λ answered. absurd (c.wants_memory.ensures.refused c.if-wants_memory.true answered)

pub returns-then-wants_memory-clause-refused : goal.returns-then-wants_memory-clause-refused
returns-then-wants_memory-clause-refused c =
    refused_under c.args.bytes.now c.governing_forms-forms.result c.args.looks.now c.governing_forms-forms.new.looks c.governing_forms-forms.ensures
    c.parse_list-read.result c.parse_list-read.ensures.refused

pub returns-clause-bounded : goal.returns-clause-bounded
returns-clause-bounded c =
    info-bounded c.args.bytes.now c.args.looks.now c.add.new.self
    (returns-clause-exact c (c.wants_memory.ensures.answered c.if-wants_memory.false))

pub returns-clause-ok : goal.returns-clause-ok
returns-clause-ok c =
    read_under c.args.bytes.now c.governing_forms-forms.result c.args.looks.now c.governing_forms-forms.new.looks c.governing_forms-forms.ensures
    c.parse_list-read.result c.parse_list-read.ensures.ok

pub returns-then-wants_memory-clause-ok : goal.returns-then-wants_memory-clause-ok
returns-then-wants_memory-clause-ok c =
    read_under c.args.bytes.now c.governing_forms-forms.result c.args.looks.now c.governing_forms-forms.new.looks c.governing_forms-forms.ensures
    c.parse_list-read.result c.parse_list-read.ensures.ok
