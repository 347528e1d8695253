-- What a good header says of a sheet's numbers.
use mathlib.Core.Path.{◌≡◌, sym, subst}
use mathlib.Core.Bool.{true}
use mathlib.Core.List.{List}
use Prim.Native.Nat.{ℕ, ◌+◌, ◌*◌, ◌≤◌}
use native.Mathlib.Omega.{arith}
use lib.ListN.{length}
use lib.Dec.{leb, ltb, eqb}
use borrow.Author.Tests.{leb-true, eqb-true}
use Rattle.real.proofs.Replies.{and_both}
use Rattle.plane.specs.Range.{most_vertices}
use Rattle.record.specs.Layout.{record_size}
use Rattle.job.specs.declared.header.Header.{Header}
use Rattle.job.specs.Header.{most_views, header_size, vertex_size, header_value, unknown_flags, header_under, header_fits_of, header_good}

-- h is the header of a sheet b that has a good one, and what that says of its numbers
pub record Headed (b : List ℕ) (h : Header) : Type 0 where
  pub is : h ≡ header_value b
  pub good : header_good b ≡ true
  pub vertices : h.vertices ≤ most_vertices
  pub views : h.views ≤ most_views
  pub offset : h.view_offset ≡ header_size + vertex_size * h.vertices
  pub size : length b ≡ h.view_offset + record_size * h.views

pub headed : (b : List ℕ) (h : Header) → header_good b ≡ true → h ≡ header_value b → Headed b h
unfolding header_good header_under
headed b h ok e =
    let fits = subst (λ (k : Header). header_fits_of k (length b) ≡ true) (sym e) ok in
    let flags = (and_both (eqb h.version 1) _ fits).1 in
    let vertices = (and_both (ltb h.flags unknown_flags) _ flags).1 in
    let views = and_both (leb h.vertices most_vertices) _ vertices in
    let offsets = and_both (leb h.views most_views) _ views.1 in
    let last = (and_both (eqb h.vertex_offset header_size) _ offsets.1).1 in
    let sizes = and_both (eqb h.view_offset (header_size + vertex_size * h.vertices)) _ last in
    record { is = e; good = ok; vertices = leb-true _ _ views.0; views = leb-true _ _ offsets.0; offset = eqb-true _ _ sizes.0; size = omega (arith, eqb-true _ _ sizes.0, eqb-true _ _ sizes.1) }
