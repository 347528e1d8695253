-- An answer that is not refused holds its value.
use mathlib.Core.Path.{◌≡◌, ap}
use Rattle.std.specs.Prelude.{Result, Ok, Err}
use Rattle.real.specs.Reply.{given, reply}
use Rattle.real.specs.declared.refusal.Refusal.{Refusal}
use Rattle.real.proofs.Replies.{same_given, never_given}

pub is_given : {A : Type 0} {a : A} (r : Result A Refusal) → reply r ≡ given a → r ≡ Ok a
is_given (Ok x) e = ap Ok (same_given e)
is_given (Err x) e = never_given e
