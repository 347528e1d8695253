-- Codes, and items by the lines that they stand on.
use mathlib.Core.Path.{◌≡◌, refl, sym, ap, ◌∙◌}
use mathlib.Core.List.{List, [], ◌∷◌}
use mathlib.Core.Bool.{Bool, true, false}
use Prim.Native.Nat.{ℕ, ◌≤◌, ◌<◌}
use native.Mathlib.Nat.{lt_of_lt_of_le}
use lib.Dec.{lit≤}
use lib.ListN.{length}
use borrow.Author.Tests.{le-leb, lt-leb}
use Rattle.std.specs.Prelude.{Result, Option}
use Rattle.std.specs.Result.{IsErr, IsErrAnd}
use Rattle.std.proofs.lemmas.Result.{err_from_is_err_and}
use Rattle.real.specs.Reply.{refused, given, check}
use Rattle.real.specs.Refusal.{bad_text, number_of}
use Rattle.real.specs.declared.refusal.Refusal.{Refusal}
use Rattle.real.proofs.Replies.{same_given, check_passed, check_failed}
use Rattle.numeral.specs.Digits.{is_whole, value_of, kept, whole_of}
use Rattle.numeral.proofs.Values.{value_under, kept_under, whole_digits}
use Rattle.dxf.specs.Line.{cut, lines_of}
use Rattle.dxf.specs.Item.{is_code, Item, pair, lone, odd, items_of, code_of, items_in, BeginsWith}
use Rattle.dxf.specs.declared.item.Entry.{Entry}

-- ---- codes

module _ (t : List ℕ) where
  pub code_long : 4 < length t → refused bad_text ≡ code_of t
  unfolding code_of is_code
  code_long h = simp (lt-leb (length t) 4 h)

  pub code_short : length t ≤ 4 → whole_of t ≡ code_of t
  unfolding code_of is_code whole_of
  code_short h = simp (le-leb (length t) 4 h) (go (is_whole t) refl)
    where
      go : (b : Bool) → is_whole t ≡ b → check b bad_text (given (kept (value_of t))) ≡ check b bad_text (given (value_of t))
      go true e = ap given (kept_under (value_of t) (lt_of_lt_of_le (value_under t 4 h (whole_digits t e)) (lit≤ tt)))
      go false e = refl

-- ---- items

pub odd_first : (c : List ℕ) (t : List (List ℕ)) (k : ℕ) → refused k ≡ code_of c → (k ≡ bad_text) × (r : List Item) × (items_of (c ∷ t) ≡ odd ∷ r)
unfolding items_of code_of
odd_first c [] k h = let f = check_failed {b = is_code c} bad_text _ h in (f.1, [], simp f.0)
odd_first c (v ∷ t) k h = let f = check_failed {b = is_code c} bad_text _ h in (f.1, items_of t, simp f.0)

pub lone_first : (c : List ℕ) (n : ℕ) → given n ≡ code_of c → items_of (c ∷ []) ≡ lone n ∷ []
unfolding items_of code_of
lone_first c n h =
    let p = check_passed {b = is_code c} bad_text _ h in
    simp p.0 (ap (λ (m : ℕ). lone m ∷ []) (sym (same_given p.1)))

pub pair_first : (c v : List ℕ) (t : List (List ℕ)) (n : ℕ) → given n ≡ code_of c → items_of (c ∷ v ∷ t) ≡ pair n v ∷ items_of t
unfolding items_of code_of
pair_first c v t n h =
    let p = check_passed {b = is_code c} bad_text _ h in
    simp p.0 (ap (λ (m : ℕ). pair m v ∷ items_of t) (sym (same_given p.1)))

-- ---- what a text begins with, by its first line

module _ (b l a : List ℕ) (split : lines_of b ≡ l ∷ lines_of a) where
  pub begins_odd : (r : Result (Option Entry) Refusal) (e : Refusal) → IsErr r × IsErrAnd r (λ (x : Refusal). x ≡ e) → refused (number_of e) ≡ code_of l → BeginsWith b r
  unfolding BeginsWith items_in
  begins_odd r e h c =
      let o = odd_first l (lines_of a) (number_of e) c in
      let p = err_from_is_err_and r h.1 in
      rw (p.1, p.2) (o.0, o.1, ap items_of split ∙ o.2)

  pub begins_lone : (n : ℕ) → given n ≡ code_of l → a ≡ [] → items_in b ≡ lone n ∷ []
  unfolding items_in lines_of cut
  begins_lone n c e = ap items_of (split ∙ ap (λ (x : List ℕ). l ∷ lines_of x) e) ∙ lone_first l n c

  pub begins_pair : (n : ℕ) (v r : List ℕ) → given n ≡ code_of l → lines_of a ≡ v ∷ lines_of r → items_in b ≡ pair n v ∷ items_in r
  unfolding items_in
  begins_pair n v r c e = ap items_of (split ∙ ap (λ (x : List (List ℕ)). l ∷ x) e) ∙ pair_first l v (lines_of r) n c
