-- What is written is the line.
use Rattle.std.proofs.Common.{◌≡◌, rules}
use Rattle.capture_command.specs.Fault.{fault_line}
use Rattle.capture_command.proofs.command_fault.CaptureCommandFault.report.Goals as goal

pub returns-in-Map-Line-clause-front : goal.returns-in-Map-Line-clause-front
returns-in-Map-Line-clause-front g c =
    let text : c.as_bytes.result.now ≡ fault_line c.args.self.now = search rules in
    rw text at c.write_text.ensures.front

pub returns-in-Setup-clause-written : goal.returns-in-Setup-clause-written
returns-in-Setup-clause-written g c =
    let text : c.as_slice.result.now ≡ fault_line c.args.self.now = search rules in
    rw text at c.write_text-in-Setup.ensures.written

pub returns-in-MapFile-clause-written : goal.returns-in-MapFile-clause-written
returns-in-MapFile-clause-written g c =
    let text : c.as_slice-in-MapFile.result.now ≡ fault_line c.args.self.now = search rules in
    rw text at c.write_text-in-MapFile.ensures.written
