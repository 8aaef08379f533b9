-- How a run ends that ends before its input does.
use Rattle.std.specs.Prelude.{ℕ, List, Option, Some, None, codes}
use Rattle.std.specs.declared.io.ErrorKind.{ErrorKind}
use Rattle.std.specs.declared.io.ErrorKind.TheVariants.{BrokenPipe, NotFound, PermissionDenied}
use Rattle.byte_window.specs.declared.stop.Stop.{Stop}
use Rattle.byte_window.specs.declared.stop.Stop.TheVariants.{Memory, Missing, Forbidden, Open, Read, Write, Closed}

-- the status of the process
abbrev pub status_of : Stop → ℕ
status_of Closed = 0
status_of Memory = 4
status_of Missing = 5
status_of Forbidden = 5
status_of Open = 5
status_of Read = 5
status_of Write = 5

-- the line on standard error
abbrev pub line_of : Stop → Option (List ℕ)
line_of Closed = None
line_of Memory = Some (codes "out of memory")
line_of Missing = Some (codes "no such file or directory")
line_of Forbidden = Some (codes "permission denied")
line_of Open = Some (codes "cannot be opened")
line_of Read = Some (codes "read failed")
line_of Write = Some (codes "write failed")

-- why a run ends where a file cannot be opened, or made
abbrev pub unopened : ErrorKind → Stop
unopened NotFound = Missing
unopened PermissionDenied = Forbidden
unopened kind = Open

-- why a run ends where a write fails so
abbrev pub unwritten : ErrorKind → Stop
unwritten BrokenPipe = Closed
unwritten kind = Write
