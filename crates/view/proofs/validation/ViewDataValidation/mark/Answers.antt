-- Verdict 7 alone is valid; and the gap decides, as in the definition.
use mathlib.Core.Path.{◌≡◌, refl, sym}
use mathlib.Core.Bool.{Bool}
use mathlib.Core.List.{List}
use lib.Ieee.{Float}
use Rattle.view.specs.Validation.{verdict_of, hold, mark_of}
use Rattle.view.specs.declared.validation.ViewDataValidation.{ViewDataValidation}
use Rattle.view.specs.declared.validation.ViewDataValidation.TheVariants as crate
use Rattle.view.specs.declared.view_data.PlineViewData.{PlineViewData}
use Rattle.view.proofs.validation.ViewDataValidation.mark.Goals as goal

held : (closed : Bool) (s : List Float) (d : PlineViewData) (v : ViewDataValidation) → (v ≡ crate.IsValid → ⊥) → hold ≡ mark_of closed s d (verdict_of v)
unfolding mark_of
held closed s d crate.SourceHasNoSegments h = refl
held closed s d (crate.OffsetOutOfRange offset count) h = refl
held closed s d (crate.UpdatedStartNotOnSegment p) h = refl
held closed s d (crate.EndPointNotOnSegment p) h = refl
held closed s d (crate.EndPointOnFinalOffsetVertex p v) h = refl
held closed s d (crate.UpdatedBulgeDoesNotMatch b e) h = refl
held closed s d crate.IsValid h = absurd (h refl)

pub returns-in_default : goal.returns-in_default
returns-in_default c = let a = c.args in held a.closed a.source.now a.d a.self c.in_default.not-IsValid

pub returns-then-is_across_gap : goal.returns-then-is_across_gap
unfolding mark_of
returns-then-is_across_gap c = simp (c.in-IsValid.is, sym c.is_across_gap.ensures, c.if-is_across_gap.true)

pub returns : goal.returns
unfolding mark_of
returns c = simp (c.in-IsValid.is, sym c.is_across_gap.ensures, c.if-is_across_gap.false)
