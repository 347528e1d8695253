-- The ends of the limit's range compute; a limit in range is above zero, where the order of values is that of fractions.
use mathlib.Core.Path.{◌≡◌, refl, sym, subst}
use mathlib.Core.Bool.{Bool, true, false, not, ◌||◌, false≢true}
use Prim.Native.Nat.{ℕ, ◌*◌, ◌<◌, ◌≤◌}
use native.Mathlib.Nat.{not-le_of_lt}
use lib.IntN.{ℤ}
use lib.Dec.{T, ltb, ltb→lt}
use lib.Ieee.{Float, nan, inf, fin, up, down, of_bits, sub, le, lt, eq}
use lib.Ieee.Fits.{down_pos}
use lib.Ieee.Positive.{positive, between, le→cross, through}
use borrow.Author.Tests.{ltb-false}
use Rattle.real.specs.Root.{abs_of}
use Rattle.real.proofs.Replies.{and_both}
use Rattle.plane.specs.Grade.{double}
use Rattle.plane.specs.Vertex.{line_of}
use Rattle.plane.specs.Range.{limit_ok}
use Rattle.plane.specs.Limits.{Limits}
use Rattle.plane.specs.declared.pline_vertex.PlineVertex.{PlineVertex}

holds : {b : Bool} → b ≡ true → T b
holds e = subst T (sym e) tt

-- a limit in range is above zero
above_zero : (limit : Float) → limit_ok double limit ≡ true → T (positive limit)
unfolding limit_ok of_bits
above_zero limit h =
    let ends = and_both (le double.line limit) (le limit double.most_line) h in
    between double.line limit double.most_line tt tt (holds ends.0) (holds ends.1)

-- fractions: a / p < b / q ≤ w / r
fractions : (a b w p q r : ℕ) → 0 < r → a * q < b * p → b * r ≤ w * q → (t : Bool) → ltb (a * r) (w * p) ≡ t → t ≡ true
fractions a b w p q r R h k true e = refl
fractions a b w p q r R h k false e = absurd (not-le_of_lt h (through b w a q r p R k (ltb-false _ _ e)))

-- a magnitude below a value above zero is below every larger one
below_both : (n l : ℕ) (d c : ℤ) (x : Float) → T (positive (fin false n d)) → T (positive (fin false l c)) → lt (abs_of x) (fin false n d) ≡ true → le (fin false n d) (fin false l c) ≡ true → lt (abs_of x) (fin false l c) ≡ true
unfolding abs_of lt
below_both n l d c nan p q h k = absurd (false≢true h)
below_both n l d c (inf s) p q h k = absurd (false≢true h)
below_both n l d c (fin s m e) p q h k =
    fractions (m * up e) (n * up d) (l * up c) (down e) (down d) (down c) (down_pos c) (ltb→lt _ _ (holds h)) (le→cross (fin false n d) (fin false l c) p q (holds k)) _ refl

stays : (y z x : Float) → T (positive y) → T (positive z) → lt (abs_of x) y ≡ true → le y z ≡ true → lt (abs_of x) z ≡ true
stays nan z x p q h k = absurd p
stays (inf t) z x p q h k = absurd p
stays (fin true n d) z x p q h k = absurd p
stays (fin false n d) nan x p q h k = absurd q
stays (fin false n d) (inf u) x p q h k = absurd q
stays (fin false n d) (fin true l c) x p q h k = absurd q
stays (fin false n d) (fin false l c) x p q h k = below_both n l d c x p q h k

lines_stay : (low high : Float) (v : PlineVertex) → limit_ok double low ≡ true → limit_ok double high ≡ true → le low high ≡ true → line_of double low v ≡ true → line_of double high v ≡ true
lines_stay low high v a b h e = stays low high (sub double.format v.bulge double.zero) (above_zero low a) (above_zero high b) e h

same : (l h : Bool) → (l ≡ true → h ≡ true) → (l || not h) ≡ true → l ≡ h
same true h grows e = sym (grows refl)
same false true grows e = absurd (false≢true e)
same false false grows e = refl

pub limits : Limits
unfolding limit_ok of_bits le lt eq
limits =
    record {
      least = refl;
      most = refl;
      below = refl;
      above = refl;
      no_number = refl;
      lines_stay = lines_stay;
      agree = λ low high v a b h. same (line_of double low v) (line_of double high v) (lines_stay low high v a b h);
    }
