-- What `?` passes on of an `ok_or`: the reason where there was nothing.
use Rattle.std.specs.Option.{ok_or}
use Rattle.std.specs.Prelude.{Err, IsErrAnd, None, Ok, Option, Result as Returned, Some}
use mathlib.Core.Path.{◌≡◌, ap, refl}

module _ {A E : Type 0} where
  pub refused-by : (f : Option A) (r e : E) → ok_or f r ≡ Err e → (f ≡ None) × (e ≡ r)
  refused-by None r e h = (refl, let q : ◌≡◌ {A = Returned A E} (Err r) (Err e) = h in cc)
  refused-by (Some x) r e h = absurd (let q : ◌≡◌ {A = Returned A E} (Ok x) (Err e) = h in cc)

  pub given-by : (f : Option A) (r : E) (x : A) → ok_or f r ≡ Ok x → f ≡ Some x
  given-by None r x h = absurd (let q : ◌≡◌ {A = Returned A E} (Err r) (Ok x) = h in cc)
  given-by (Some y) r x h = ap Some (let q : ◌≡◌ {A = Returned A E} (Ok y) (Ok x) = h in cc)
