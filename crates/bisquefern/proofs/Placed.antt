-- A record that a call answers lies in its outline, so its start and offset are at most 2,000.
use mathlib.Core.Path.{◌≡◌, sym, subst, ◌∙◌}
use mathlib.Core.Bool.{Bool, true, false, cond, ◌&&◌}
use mathlib.Core.List.{List}
use Prim.Native.Nat.{ℕ, ◌+◌, ◌-◌, ◌<◌, ◌≤◌}
use native.Mathlib.Nat.{mod-lt}
use native.Mathlib.Omega.{arith}
use lib.Dec.{ltb}
use lib.Ieee.{Float}
use borrow.Author.Tests.{ltb-true}
use Rattle.real.specs.Refusal.{bad_trim}
use Rattle.real.specs.Reply.{Reply, given}
use Rattle.real.proofs.Replies.{same_given, check_passed, and_both}
use Rattle.plane.specs.Grade.{double}
use Rattle.plane.specs.declared.vector2.Vector2.{Vector2}
use Rattle.plane.specs.declared.pline_vertex.PlineVertex.{PlineVertex}
use Rattle.seg.proofs.HalfCircle.{double_sound}
use Rattle.lists.specs.View.{turn_view, trim_view, part}
use Rattle.view.specs.Outline.{count_of}
use Rattle.view.specs.Record.{turned_of, trimmed_of, vertices}
use Rattle.view.specs.Needs.{Placed}
use Rattle.view.specs.Answers.{reverse_of, trim_of}
use Rattle.view.specs.Create.{create_of, new_start_of}
use Rattle.view.specs.declared.view_data.PlineViewData.{PlineViewData}
use Rattle.view.proofs.Checks.{Checked, evened, even_rest}
use Rattle.view.proofs.Made.{create_fresh, new_start_fresh}
use Rattle.record.specs.Record.{record_bytes}
use Rattle.lent.specs.Lent.{Answered}
use Rattle.lent.specs.Values.{RecordAnswered}
use Rattle.lent.proofs.Record.{placed_answered}

module _ (s : List Float) (d d' : PlineViewData) where
  -- a reversal's answer, and a trim's: what was checked, and the record
  pub record Turned : Type 0 where
    pub clear : Checked double s d
    pub is : turned_of d ≡ d'

  pub turned : given d' ≡ reverse_of double s d → Turned
  unfolding reverse_of
  turned e =
      let v = evened double s d _ e in
      record { clear = v.clear; is = same_given (sym (e ∙ even_rest double s d _ v)) }

  pub record Trimmed (i j : ℕ) : Type 0 where
    pub clear : Checked double s d
    pub below : i < j
    pub within : j < vertices d
    pub is : trimmed_of double s d i j ≡ d'

  pub trimmed : (i j : ℕ) → given d' ≡ trim_of double s d i j → Trimmed i j
  unfolding trim_of
  trimmed i j e =
      let v = evened double s d _ e in
      let ends = check_passed {b = ltb i j && ltb j (vertices d)} bad_trim (given (trimmed_of double s d i j)) (e ∙ even_rest double s d _ v) in
      let both = and_both (ltb i j) _ ends.0 in
      record { clear = v.clear; below = ltb-true _ _ both.0; within = ltb-true _ _ both.1; is = same_given (sym ends.1) }

  pub turn_placed : given d' ≡ reverse_of double s d → Placed s d'
  unfolding turn_view
  turn_placed e =
      let t = turned e in
      let p = t.clear.placed in
      subst (Placed s) t.is (record { few = p.few; two = p.two; start = p.start; offset = p.offset })

  pub trim_placed : (i j : ℕ) → given d' ≡ trim_of double s d i j → Placed s d'
  unfolding trim_view part
  trim_placed i j e =
      let t = trimmed i j e in
      let p = t.clear.placed in
      subst (Placed s) t.is (record { few = p.few; two = p.two; start = mod-lt _ (omega arith); offset = ends t d.inverted_direction })
    where
      ends : Trimmed i j → (b : Bool) → cond b (d.end_index_offset + 1 - i) j - cond b (d.end_index_offset + 1 - j) i - 1 ≤ count_of s
      ends t true = omega (arith, t.clear.placed.offset)
      ends t false = omega (arith, t.clear.placed.offset)

module _ (limit : Float) (s : List Float) (p : Vector2) (eps : Float) (d : PlineViewData) where
  pub create_placed : (start at : ℕ) (first : PlineVertex) (traverse : ℕ) → given d ≡ create_of double limit s start p at first traverse eps → Placed s d
  create_placed start at first traverse e = (create_fresh double double_sound limit s p eps d start at first traverse (sym e)).fine.clear.placed

  pub new_start_placed : (closed : Bool) (start : ℕ) → given d ≡ new_start_of double limit s closed p start eps → Placed s d
  new_start_placed closed start e = (new_start_fresh double double_sound limit s p eps d closed start (sym e)).fine.clear.placed

-- so such a record is written as its 64 bytes
module _ (s : List Float) {before after : List ℕ} {n : ℕ} {y : Reply PlineViewData} where
  pub turn_answered : (d : PlineViewData) → y ≡ reverse_of double s d → RecordAnswered y before n after → Answered record_bytes y before n after
  turn_answered d e = placed_answered s y (λ r f. turn_placed s d r (f ∙ e))

  pub trim_answered : (d : PlineViewData) (i j : ℕ) → y ≡ trim_of double s d i j → RecordAnswered y before n after → Answered record_bytes y before n after
  trim_answered d i j e = placed_answered s y (λ r f. trim_placed s d r i j (f ∙ e))

  pub create_answered : (limit : Float) (start : ℕ) (p : Vector2) (at : ℕ) (first : PlineVertex) (traverse : ℕ) (eps : Float) → y ≡ create_of double limit s start p at first traverse eps
      → RecordAnswered y before n after → Answered record_bytes y before n after
  create_answered limit start p at first traverse eps e = placed_answered s y (λ r f. create_placed limit s p eps r start at first traverse (f ∙ e))

  pub new_start_answered : (limit : Float) (closed : Bool) (p : Vector2) (start : ℕ) (eps : Float) → y ≡ new_start_of double limit s closed p start eps → RecordAnswered y before n after
      → Answered record_bytes y before n after
  new_start_answered limit closed p start eps e = placed_answered s y (λ r f. new_start_placed limit s p eps r closed start (f ∙ e))
