use Rattle.std.proofs.Common.{w8, drop, take}
use Rattle.std.proofs.lemmas.Simd.{length-chunk, chunk-fits}
use Rattle.docsis_wire.proofs.PairSums.{bytes_as_pair}
use Rattle.docsis_wire.proofs.sparse_multiple.words_at.Goals as goal

pub returns : goal.returns
returns c =
    let bytes = c.args.bytes.now in
    let at = c.args.at in
    bytes_as_pair (take 16 (drop at bytes)) (length-chunk at 16 bytes c.requires) (chunk-fits w8 at 16 bytes c.type_inv.bytes)
