-- What a test that is turned round tells.
use Rattle.std.proofs.Common.{◌≡◌, Bool, true, false, not, refl, sym}

pub was_false : (b : Bool) → not b ≡ true → b ≡ false
was_false true e = sym e
was_false false e = refl

pub was_true : (b : Bool) → not b ≡ false → b ≡ true
was_true true e = refl
was_true false e = sym e
