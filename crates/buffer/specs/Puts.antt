-- Bytes put into a lent buffer: what they leave there, and the offset behind them.
use Rattle.std.specs.Prelude.{ℕ, ◌+◌, ◌-◌, min, List, length}
use Rattle.std.proofs.lemmas.List.Edits.{sets}
use Rattle.buffer.specs.declared.Buffer.{Buffer}

-- The buffer after the bytes t: they are put from its offset on, as many as it has room for, the others are passed over; its offset is then behind those that are put, and what is lent is the same.
unfoldable pub put : Buffer → List ℕ → Buffer
put b t = record {
  out = record { ref_ptr = b.out.ref_ptr; ghost_name = b.out.ghost_name; now = sets b.out.now b.at t };
  at = b.at + min (length t) (length b.out.now - b.at);
}
