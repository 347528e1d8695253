-- No second answer fits a promise: a reply tells its answer.
use mathlib.Core.Path.{◌≡◌, refl, ap}
use mathlib.Core.Bool.{cond}
use Prim.Native.Nat.{ℕ}
use lib.Dec.{eqb}
use lib.ListN.{get_or}
use lib.Ieee.{Float, nan}
use Rattle.std.specs.Prelude.{Result}
use Rattle.real.specs.Reply.{reply_by}
use Rattle.real.specs.Tally.{Tally}
use Rattle.real.specs.declared.refusal.Refusal.{Refusal}
use Rattle.real.specs.declared.square_root.Rooted.{Rooted}
use Rattle.real.proofs.Same.{reply_by_same}
use Rattle.plane.specs.declared.vector2.Vector2.{Vector2}
use Rattle.view.specs.Validation.{Verdict, verdict_of, judged_tally, MarkCase, cut, hold, mark_case}
use Rattle.view.specs.declared.validation.ViewDataValidation.{ViewDataValidation}
use Rattle.view.specs.declared.validation.ViewDataValidation.TheVariants as crate
use Rattle.view.specs.declared.validation.Mark.{Mark}
use Rattle.view.specs.declared.validation.Mark.TheVariants as case

-- a verdict's number and values tell its case
case_of : Verdict → ViewDataValidation
case_of v =
    let float : ℕ → Float = λ k. get_or v.floats k nan in
    let point : Vector2 = record { x = float 0; y = float 1 } in
    let n = v.number in
    cond (eqb n 1) crate.SourceHasNoSegments
    (cond (eqb n 2) (crate.OffsetOutOfRange (get_or v.counts 0 0) (get_or v.counts 1 0))
    (cond (eqb n 3) (crate.UpdatedStartNotOnSegment point)
    (cond (eqb n 4) (crate.EndPointNotOnSegment point)
    (cond (eqb n 5) (crate.EndPointOnFinalOffsetVertex point (record { x = float 2; y = float 3; bulge = float 4 }))
    (cond (eqb n 6) (crate.UpdatedBulgeDoesNotMatch (float 0) (float 1)) crate.IsValid)))))

case_of_verdict : (v : ViewDataValidation) → case_of (verdict_of v) ≡ v
unfolding case_of
case_of_verdict crate.SourceHasNoSegments = refl
case_of_verdict (crate.OffsetOutOfRange offset count) = refl
case_of_verdict (crate.UpdatedStartNotOnSegment p) = refl
case_of_verdict (crate.EndPointNotOnSegment p) = refl
case_of_verdict (crate.EndPointOnFinalOffsetVertex p v) = refl
case_of_verdict (crate.UpdatedBulgeDoesNotMatch b e) = refl
case_of_verdict crate.IsValid = refl

pub validation_same : (a b : Result (Rooted ViewDataValidation) Refusal) → reply_by judged_tally a ≡ reply_by judged_tally b → a ≡ b
validation_same =
    reply_by_same judged_tally (λ (t : Tally Verdict). record { value = case_of t.value; roots = t.roots })
    (λ (j : Rooted ViewDataValidation). ap {B = Rooted ViewDataValidation} (λ (v : ViewDataValidation). record { value = v; roots = j.roots }) (case_of_verdict j.value))

abbrev marked : MarkCase → Mark
marked cut = case.Cut
marked hold = case.Hold

pub mark_same : (a b : Result Mark Refusal) → reply_by mark_case a ≡ reply_by mark_case b → a ≡ b
mark_same = reply_by_same mark_case marked (elim [ case.Cut ↦ refl | case.Hold ↦ refl ])
