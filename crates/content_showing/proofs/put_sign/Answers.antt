-- `content_showing::put_sign` meets its contract: by the test, the byte that was stored counts or not.
use mathlib.Core.Path.{sym}
use Rattle.content_showing.proofs.Digits.{sign-down, sign-up}
use Rattle.content_showing.proofs.Stores.{puts-byte, puts-no-byte}
use Rattle.moving.proofs.Puts.{puts-as}
use Rattle.number.proofs.Signed.{down, up}
use mir.Syntax.{w64}
use Rattle.content_showing.proofs.put_sign.Goals as goal

pub returns-then-z-ge0 : goal.returns-then-z-ge0
returns-then-z-ge0 c =
    puts-as (sym (sign-up c.args.z (up w64 c.args.z c.ranges.z c.if-z-ge0.true))) (puts-no-byte _ _ 45 c.requires)

pub returns-else-z-ge0 : goal.returns-else-z-ge0
returns-else-z-ge0 c =
    puts-as (sym (sign-down c.args.z (down w64 c.args.z c.ranges.z c.if-z-ge0.false))) (puts-byte _ _ 45 c.requires)
