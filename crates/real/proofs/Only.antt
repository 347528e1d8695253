-- No second answer fits the promise of square root: the root is one, and a reply tells its answer.
use mathlib.Core.Path.{◌≡◌, sym, ap, ◌∙◌}
use mathlib.Core.Bool.{true, false}
use lib.Ieee.{Float, Format}
use Rattle.std.specs.Prelude.{Result}
use Rattle.real.specs.Reply.{Reply, refused, given, reply}
use Rattle.real.specs.Sqrt.{IsSqrt}
use Rattle.real.specs.declared.refusal.Refusal.{Refusal}
use Rattle.real.proofs.Nearest.{only_root}
use Rattle.real.proofs.Same.{reply_same}

pub only_reply : (f : Format) (x : Float) (r r' : Reply Float) → IsSqrt f x r → IsSqrt f x r' → r ≡ r'
unfolding IsSqrt
only_reply f x (given r) (given r') p q = ap given (only_root f x r r' p.1 q.1)
only_reply f x (given r) (refused n) p q = let e : true ≡ false = sym p.0 ∙ q.0 in cc
only_reply f x (refused n) (given r) p q = let e : false ≡ true = sym p.0 ∙ q.0 in cc
only_reply f x (refused n) (refused m) p q = ap refused (p.1 ∙ sym q.1)

pub only_sqrt : (f : Format) (x : Float) (a b : Result Float Refusal) → IsSqrt f x (reply a) → IsSqrt f x (reply b) → a ≡ b
only_sqrt f x a b p q = reply_same a b (only_reply f x (reply a) (reply b) p q)
