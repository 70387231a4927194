-- put_bytes meets its contract.
use Rattle.buffer.proofs.Puts.{put_copied}
use Rattle.buffer.proofs.Buffer.put_bytes.Goals as goal

pub returns : goal.returns
returns c = put_copied c.args.self.now c.args.bytes.now c.min-at.ensures c.min-count.ensures c.copy_from_slice.ensures.after
