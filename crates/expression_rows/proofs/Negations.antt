-- What the test of a negation says.
use Rattle.std.proofs.Common.{◌≡◌, Bool, true, false, not, refl, sym}

pub not_true : (x : Bool) → not x ≡ true → x ≡ false
not_true true e = sym e
not_true false e = refl

pub not_false : (x : Bool) → not x ≡ false → x ≡ true
not_false true e = refl
not_false false e = sym e
