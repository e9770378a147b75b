use Rattle.docsis_wire.specs.Header.{header_bytes}
use Rattle.texts.proofs.PutLines.{puts-hex-line}
use Rattle.texts.proofs.cut.put_segment.Goals as goal

pub returns : goal.returns
returns g c =
    puts-hex-line g.O.PutText.after c.args.out.now c.put_hex.new.out c.put_payload.new.out c.put.new.self (header_bytes c.args.segment.head) c.args.segment.payload
    (rw (c.write_segment.ensures, c.head.ensures) at c.put_hex.ensures) c.put_payload.ensures c.put.ensures
