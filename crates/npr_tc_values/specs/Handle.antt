-- Handles of queueing disciplines and classes (linux/pkt_sched.h, TC_H_*): a number whose high half is major, and whose low half minor.
use Rattle.std.specs.Prelude.{ℕ, ◌+◌, ◌*◌, ◌/◌, ◌%◌, ◌^◌, ◌++◌, List, codes, false}
use Rattle.std.specs.Fmt.{digits}
use Rattle.std.proofs.Common.{arith}
use Rattle.npr_base.specs.Fields.{le_four, ◌holding◌, fields}
use Rattle.npr_base.specs.Layout.{Layout}
use Rattle.npr_base.specs.Numbering.{Numbering}
use Rattle.npr_tc_values.specs.declared.handle.TcHandle.{TcHandle}

-- the handle that a number reads as, and the number that one is written as
abbrev pub handles : Numbering ℕ TcHandle
handles = record {
  of = λ d. record { major = d / 2 ^ 16; minor = d % 2 ^ 16 };
  number = λ x. x.major * 2 ^ 16 + x.minor;
  back = λ d. omega arith;
}

-- four bytes, the lowest first
abbrev pub handle : Layout TcHandle
handle = fields (le_four holding handles)

-- both in hexadecimal
abbrev pub handle_text : TcHandle → List ℕ
handle_text x = digits 16 false x.major ++ codes ":" ++ digits 16 false x.minor
