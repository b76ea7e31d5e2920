-- Each part is taken from what is left, so that what is left after all says whether their sum has room.
use Prim.Native.Nat.{◌+◌, ◌-◌, ◌*◌}
use mathlib.Core.Path.{sym}
use native.Mathlib.Omega.{arith}
use borrow.Author.Tests.{lt-leb}
use Rattle.profile_lists.proofs.Tests.{leb_same}
use Rattle.profile_lists.proofs.has_room.Goals as goal

pub returns-then-room-front : goal.returns-then-room-front
returns-then-room-front c =
    sym (lt-leb (72 + c.args.profiles * 40 + c.args.tuples + c.args.blocks) c.args.room (omega arith))

pub returns-then-room-front-2 : goal.returns-then-room-front-2
returns-then-room-front-2 c =
    sym (lt-leb (72 + c.args.profiles * 40 + c.args.tuples + c.args.blocks) c.args.room (omega arith))

pub returns : goal.returns
returns c =
    let front = 72 + c.args.profiles * 40 in
    leb_same c.args.blocks (c.args.room - front - c.args.tuples) (front + c.args.tuples + c.args.blocks) c.args.room
    (λ l. omega arith) (λ l. omega arith)
