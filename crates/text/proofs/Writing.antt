-- Text that is written piece after piece: a run of stores after a run of stores is one run.
use mathlib.Core.Path.{◌≡◌, refl, sym, ap, ap₂, subst, ◌∙◌}
use mathlib.Core.List.{List, [], ◌∷◌, ◌++◌}
use Prim.Native.Nat.{ℕ, suc, ◌+◌, ◌-◌, ◌≤◌, ◌<◌}
use mathlib.Core.Bool.{Bool, true, false}
use lib.Dec.{leb}
use borrow.Author.Tests.{leb-true, leb-false, le-leb, lt-leb}
use Rattle.real.proofs.Pick.{passed, failed}
use native.Mathlib.Nat.{add-zero}
use native.Mathlib.Decide.{dec_lt}
use native.Mathlib.Omega.{arith}
use lib.ListN.{length, set, take, drop, length-append}
use Rattle.std.proofs.lemmas.List.{set_comm}
use lib.Seq.{sets, sets-eq, length-sets, take_at}
use Rattle.text.specs.Wrote.{Wrote, Piece, Put, Begins, Filled}

pub sets_append : (l : List ℕ) (i : ℕ) (t u : List ℕ) → sets (sets l i t) (i + length t) u ≡ sets l i (t ++ u)
sets_append l i [] u = ap (λ (k : ℕ). sets l k u) (add-zero i)
sets_append l i (a ∷ t) u =
    let e : i + suc (length t) ≡ suc i + length t = omega arith in
    ap (λ (k : ℕ). sets (sets (set l i a) (suc i) t) k u) e ∙ sets_append (set l i a) (suc i) t u

-- nothing
pub none : (l : List ℕ) (i : ℕ) → Wrote l i [] l i
none l i = record { text = refl; end = sym (add-zero i) }

-- after the text t at `at`, whose end is e, the text u
pub next : {l₀ l₁ l₂ : List ℕ} {at e f : ℕ} {t u : List ℕ} → Wrote l₀ at t l₁ e → Wrote l₁ e u l₂ f → Wrote l₀ at (t ++ u) l₂ f
next {l₀} {l₁} {l₂} {at} {e} {f} {t} {u} p q =
    let h = length-append t u in
    let m = p.end in
    let n = q.end in
    record { text = q.text ∙ ap₂ (λ (l : List ℕ) (k : ℕ). sets l k u) p.text p.end ∙ sets_append l₀ at t u; end = omega arith }

-- the same text, by another name
pub named : {l l' : List ℕ} {at e : ℕ} {t u : List ℕ} → t ≡ u → Wrote l at t l' e → Wrote l at u l' e
named {l} {l'} {at} {e} p w = subst (λ (s : List ℕ). Wrote l at s l' e) p w

-- ---- pieces: each written where there is room for it

pub no_piece : (l : List ℕ) (i : ℕ) → Piece l i [] l i
no_piece l i = record { wrote = λ h. none l i }

pub then : {l₀ l₁ l₂ : List ℕ} {at e f : ℕ} {t u : List ℕ} → Piece l₀ at t l₁ e → Piece l₁ e u l₂ f → Piece l₀ at (t ++ u) l₂ f
then {l₀} {l₁} {l₂} {at} {e} {f} {t} {u} p q = record {
  wrote = λ h.
      let n = length-append t u in
      let w = p.wrote (omega arith) in
      let m = w.end in
      let k = ap length w.text ∙ length-sets l₀ at t in
      next w (q.wrote (omega arith));
}

pub named_piece : {l l' : List ℕ} {at e : ℕ} {t u : List ℕ} → t ≡ u → Piece l at t l' e → Piece l at u l' e
named_piece {l} {l'} {at} {e} p w = subst (λ (s : List ℕ). Piece l at s l' e) p w

-- ---- three texts and five, one after the other, for any promise by which two are one

pub record Joins (R : List ℕ → ℕ → List ℕ → List ℕ → ℕ → Type 0) : Type 0 where
  pub both : (l₀ l₁ l₂ : List ℕ) (at e f : ℕ) (t u : List ℕ) → R l₀ at t l₁ e → R l₁ e u l₂ f → R l₀ at (t ++ u) l₂ f

pub wrotes : Joins Wrote
wrotes = record { both = λ l₀ l₁ l₂ at e f t u p q. next p q }

pub pieces : Joins Piece
pieces = record { both = λ l₀ l₁ l₂ at e f t u p q. then p q }

module _ {R : List ℕ → ℕ → List ℕ → List ℕ → ℕ → Type 0} (j : Joins R) where
  pub three_of : {l₀ l₁ l₂ l₃ : List ℕ} {at e₁ e₂ e₃ : ℕ} {a b c : List ℕ} → R l₀ at a l₁ e₁ → R l₁ e₁ b l₂ e₂ → R l₂ e₂ c l₃ e₃ → R l₀ at (a ++ b ++ c) l₃ e₃
  three_of p q r = j.both _ _ _ _ _ _ _ _ (j.both _ _ _ _ _ _ _ _ p q) r

  pub five_of : {l₀ l₁ l₂ l₃ l₄ l₅ : List ℕ} {at e₁ e₂ e₃ e₄ e₅ : ℕ} {a b c d e : List ℕ}
      → R l₀ at a l₁ e₁ → R l₁ e₁ b l₂ e₂ → R l₂ e₂ c l₃ e₃ → R l₃ e₃ d l₄ e₄ → R l₄ e₄ e l₅ e₅ → R l₀ at (a ++ b ++ c ++ d ++ e) l₅ e₅
  five_of p q r s t = j.both _ _ _ _ _ _ _ _ (j.both _ _ _ _ _ _ _ _ (three_of p q r) s) t

-- and for pieces
pub three : {l₀ l₁ l₂ l₃ : List ℕ} {at e₁ e₂ e₃ : ℕ} {a b c : List ℕ} → Piece l₀ at a l₁ e₁ → Piece l₁ e₁ b l₂ e₂ → Piece l₂ e₂ c l₃ e₃ → Piece l₀ at (a ++ b ++ c) l₃ e₃
three p q r = three_of pieces p q r

pub five : {l₀ l₁ l₂ l₃ l₄ l₅ : List ℕ} {at e₁ e₂ e₃ e₄ e₅ : ℕ} {a b c d e : List ℕ}
    → Piece l₀ at a l₁ e₁ → Piece l₁ e₁ b l₂ e₂ → Piece l₂ e₂ c l₃ e₃ → Piece l₃ e₃ d l₄ e₄ → Piece l₄ e₄ e l₅ e₅ → Piece l₀ at (a ++ b ++ c ++ d ++ e) l₅ e₅
five p q r s t = five_of pieces p q r s t

-- ---- a text that is put where it fits

-- it fitted, and was written
pub fitted : {l l' t : List ℕ} {at e : ℕ} → at + length t ≤ length l → Wrote l at t l' e → Put l at t l' e
fitted {l} {l'} {t} {at} {e} h w = record { piece = record { wrote = λ p. w }; left = λ p. absurd (let z : ⊥ = omega arith in z) }

-- it did not, and nothing was
pub full : {l t : List ℕ} {at : ℕ} → length l < at + length t → Put l at t l at
full {l} {t} {at} h = record { piece = record { wrote = λ p. absurd (let z : ⊥ = omega arith in z) }; left = λ p. (refl, refl) }

-- n bytes fit behind a place where as many are left
pub behind : (at n m : ℕ) → at ≤ m → leb n (m - at) ≡ leb (at + n) m
behind at n m h = elim (dec_lt (m - at) n) [
  | yes p ↦ lt-leb n (m - at) p ∙ sym (lt-leb (at + n) m (omega arith))
  | no p ↦ le-leb n (m - at) (omega arith) ∙ sym (le-leb (at + n) m (omega arith))
]

-- the same, from the answer b to whether there is room for n bytes
pub roomy : {b : Bool} {m k : ℕ} → b ≡ leb m k → b ≡ true → m ≤ k
roomy {b} {m} {k} e h = leb-true m k (passed e h)

pub refused : {b : Bool} {l t : List ℕ} {at n : ℕ} → b ≡ leb (at + n) (length l) → b ≡ false → length t ≡ n → Put l at t l at
refused {b} {l} {t} {at} {n} e h q = let f = leb-false (at + n) (length l) (failed e h) in full (omega arith)

pub allowed : {b : Bool} {l l' t : List ℕ} {at n e : ℕ} → b ≡ leb (at + n) (length l) → b ≡ true → length t ≤ n → Wrote l at t l' e → Put l at t l' e
allowed {b} {l} {l'} {t} {at} {n} {e} p h q w = let f = roomy {k = length l} p h in fitted (omega arith) w

-- the same text, by another name
pub put_named : {l l' : List ℕ} {at e : ℕ} {t u : List ℕ} → t ≡ u → Put l at t l' e → Put l at u l' e
put_named {l} {l'} {at} {e} p w = subst (λ (s : List ℕ). Put l at s l' e) p w

-- ---- stores one after the other

pub one : (l : List ℕ) (i a : ℕ) → Wrote l i (a ∷ []) (set l i a) (i + 1)
one l i a = record { text = refl; end = refl }

pub two : (l : List ℕ) (i a b : ℕ) → Wrote l i (a ∷ b ∷ []) (set (set l i a) (i + 1) b) (i + 2)
two l i a b =
    let e : i + 1 ≡ suc i = omega arith in
    record { text = rw e; end = refl }

pub four : (l : List ℕ) (i a b c d : ℕ) → Wrote l i (a ∷ b ∷ c ∷ d ∷ []) (set (set (set (set l i a) (i + 1) b) (i + 2) c) (i + 3) d) (i + 4)
four l i a b c d =
    let e : i + 1 ≡ suc i = omega arith in
    let f : i + 2 ≡ suc (suc i) = omega arith in
    let g : i + 3 ≡ suc (suc (suc i)) = omega arith in
    record { text = rw (e, f, g); end = refl }

pub eight : (l : List ℕ) (i a b c d e f g h : ℕ) → Wrote l i (a ∷ b ∷ c ∷ d ∷ e ∷ f ∷ g ∷ h ∷ []) (set (set (set (set (set (set (set (set l i a) (i + 1) b) (i + 2) c) (i + 3) d) (i + 4) e) (i + 5) f) (i + 6) g) (i + 7) h) (i + 8)
eight l i a b c d e f g h =
    let e₁ : i + 1 ≡ suc i = omega arith in
    let e₂ : i + 2 ≡ suc (suc i) = omega arith in
    let e₃ : i + 3 ≡ suc (suc (suc i)) = omega arith in
    let e₄ : i + 4 ≡ suc (suc (suc (suc i))) = omega arith in
    let e₅ : i + 5 ≡ suc (suc (suc (suc (suc i)))) = omega arith in
    let e₆ : i + 6 ≡ suc (suc (suc (suc (suc (suc i))))) = omega arith in
    let e₇ : i + 7 ≡ suc (suc (suc (suc (suc (suc (suc i)))))) = omega arith in
    record { text = rw (e₁, e₂, e₃, e₄, e₅, e₆, e₇); end = refl }

-- a store below others, which may come first
set_sets : (l : List ℕ) (i j a : ℕ) (t : List ℕ) → i < j → set (sets l j t) i a ≡ sets (set l i a) j t
set_sets l i j a [] h = refl
set_sets l i j a (b ∷ t) h = set_sets (set l j b) i (suc j) a t (omega arith) ∙ ap (λ (m : List ℕ). sets m (suc j) t) (set_comm l j i b a (λ e. absurd (let z : ⊥ = omega arith in z)))

pub one_before : (l t : List ℕ) (i a : ℕ) {m : List ℕ} {j : ℕ} → j ≡ i + 1 → m ≡ sets l j t → set m i a ≡ sets l i (a ∷ t)
one_before l t i a {m} {j} e p =
    ap (λ (o : List ℕ). set o i a) p ∙ set_sets l i j a t (omega arith) ∙ ap (λ (k : ℕ). sets (set l i a) k t) (omega arith)

pub two_before : (l t : List ℕ) (i a b : ℕ) {m : List ℕ} {j : ℕ} → j ≡ i + 2 → m ≡ sets l j t → set (set m i a) (i + 1) b ≡ sets l i (a ∷ b ∷ t)
two_before l t i a b {m} {j} e p =
    one_before (set l i a) t (i + 1) b (omega arith) (ap (λ (o : List ℕ). set o i a) p ∙ set_sets l i j a t (omega arith))
    ∙ ap (λ (k : ℕ). sets (set l i a) k (b ∷ t)) (omega arith)

pub four_before : (l t : List ℕ) (i a b c d : ℕ) {m n o : List ℕ} {j : ℕ} → j ≡ i + 4 → m ≡ sets l j t → n ≡ set (set m (i + 2) c) (i + 2 + 1) d → o ≡ set (set n i a) (i + 1) b → o ≡ sets l i (a ∷ b ∷ c ∷ d ∷ t)
four_before l t i a b c d {m} {n} {o} {j} e p q r =
    r ∙ two_before l (c ∷ d ∷ t) i a b {m = n} {j = i + 2} refl (q ∙ two_before l t (i + 2) c d {m = m} {j = j} (omega arith) p)

-- text from the start of a buffer that has room for it
pub filled : {l l' t : List ℕ} {e : ℕ} → Wrote l 0 t l' e → e ≤ length l → Filled t l l' e
filled {l} {l'} {t} {e} w h =
    let q = w.end in
    let n : length t ≡ e = omega arith in
    let z₀ : 0 + length t ≡ e = omega arith in
    let z = ap length w.text ∙ length-sets l 0 t in
    record { count = sym n; room = omega arith; holds = w.text ∙ sets-eq t l 0 (omega arith) ∙ ap (λ (m : ℕ). t ++ drop m l) z₀ }

-- which begins with it then
pub begins : {l l' t : List ℕ} {n : ℕ} → Filled t l l' n → Begins t l' n
begins {l} {l'} {t} {n} f = record { room = f.room; is = ap (take n) f.holds ∙ take_at t (drop n l) n (sym f.count) }

pub nothing : (l : List ℕ) → Filled [] l l 0
nothing l = record { count = refl; room = omega arith; holds = refl }
