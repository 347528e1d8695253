-- A record's bytes in a lent buffer: as their writer leaves them, and, of a record that lies in an outline, all 64 or none.
use mathlib.Core.Path.{◌≡◌, refl, sym, ap, ◌∙◌}
use mathlib.Core.Bool.{Bool, true, false}
use mathlib.Core.List.{List, ◌++◌}
use Prim.Native.Nat.{ℕ, ◌<◌}
use native.Mathlib.Omega.{arith}
use lib.Dec.{leb}
use lib.ListN.{length, drop}
use lib.Ieee.{Float}
use borrow.Author.Tests.{lt-ltb}
use Rattle.real.specs.Refusal.{lacks_room}
use Rattle.real.specs.Reply.{Reply, refused, given, check, and_then}
use Rattle.view.specs.Needs.{Placed}
use Rattle.view.specs.declared.view_data.PlineViewData.{PlineViewData}
use Rattle.record.specs.Layout.{record_size, word_limit}
use Rattle.record.specs.Record.{record_bytes, record_to, buffer_by, record_buffer}
use Rattle.record.proofs.Records.{record_length}
use Rattle.lent.specs.Lent.{code_of, held_by, lent, Answered}
use Rattle.lent.specs.Values.{record_lent, RecordAnswered}

module _ {d : PlineViewData} {before after : List ℕ} where
  pub record_given : {m : ℕ} → given m ≡ record_to d (length before) → after ≡ record_buffer d before → RecordAnswered (given d) before 0 after
  unfolding record_lent and_then code_of held_by
  record_given e h = record { returned = simp (sym e); holds = simp (sym e) h }

  pub record_refused : {n : ℕ} → refused n ≡ record_to d (length before) → after ≡ record_buffer d before → RecordAnswered (given d) before n after
  unfolding record_lent and_then code_of held_by record_buffer buffer_by
  record_refused e h = record { returned = simp (sym e); holds = h ∙ simp (sym e) }

by_room : (x before : List ℕ) (t : Bool) → and_then (check t lacks_room (given record_size)) (λ n. given (buffer_by (check t lacks_room (given record_size)) x before)) ≡ check t lacks_room (given (x ++ drop record_size before))
unfolding and_then buffer_by
by_room x before true = refl
by_room x before false = refl

module _ (s : List Float) where
  placed_lent : (d : PlineViewData) (before : List ℕ) → Placed s d → record_lent d before ≡ lent (record_bytes d) before
  unfolding record_lent record_to record_buffer lent
  placed_lent d before p =
      let start : d.start_index < word_limit = omega (arith, p.start, p.few) in
      let offset : d.end_index_offset < word_limit = omega (arith, p.offset, p.few) in
      simp (lt-ltb _ _ start, lt-ltb _ _ offset, record_length d) (by_room (record_bytes d) before (leb record_size (length before)))

  pub placed_answered : {before after : List ℕ} {n : ℕ} (reply : Reply PlineViewData) → ((d : PlineViewData) → given d ≡ reply → Placed s d) → RecordAnswered reply before n after
      → Answered record_bytes reply before n after
  unfolding and_then
  placed_answered (refused n) p a = record { returned = a.returned; holds = a.holds }
  placed_answered {before} (given d) p a =
      let e = placed_lent d before (p d refl) in
      record { returned = a.returned ∙ ap code_of e; holds = a.holds ∙ ap (λ (r : Reply (List ℕ)). held_by r before) e }
