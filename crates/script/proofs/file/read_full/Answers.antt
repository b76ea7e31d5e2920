-- One more read goes on where the last stopped.
use Rattle.std.proofs.Common.{◌-◌, length, rules}
use Rattle.script.proofs.Filled.{consumes_more, take_read}
use Rattle.script.proofs.file.read_full.Goals as goal

pub loop-done-preserved : goal.loop-done-preserved
loop-done-preserved g c =
    let done = c.loop-done.done in
    let n = c.in_ok-n.n in
    let was = c.loop-done.buffer in
    let remaining = g.R.Read.remaining in
    let read = take_read done (length was - done) n was c.read.new.buf c.loop-done.invariant.0 c.in_ok-n.ensures.bound.0 in
    let bytes = consumes_more (remaining c.args.source.now) (remaining c.loop-done.source) (remaining c.read.new.self) _ _ c.loop-done.invariant.1 c.in_ok-n.ensures.bytes.0 in
    (search rules, rw read bytes)
