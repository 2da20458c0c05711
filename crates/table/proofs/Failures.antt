-- What `?` hands on is the failure that it met: by the two cases of a result.
use Rattle.std.specs.Prelude.{Err, Ok, Result, ◌≡◌}
use Rattle.std.specs.Result.{IsErrAnd}
use mathlib.Core.Path.{ap}

pub handed-on : {A E : Type 0} {r : Result A E} {e : E} → IsErrAnd r (λ (f : E). f ≡ e) → r ≡ Err e
handed-on {r = Ok x} h = absurd h
handed-on {r = Err f} h = ap (λ (x : _). Err x) h
