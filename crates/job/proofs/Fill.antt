-- A buffer that is filled from its start, one store after the other.
use mathlib.Core.Path.{◌≡◌, sym, ap, ◌∙◌}
use mathlib.Core.List.{List, ◌∷◌, ◌++◌}
use Prim.Native.Nat.{ℕ, suc, ◌<◌}
use lib.ListN.{length, drop, set, get_or}
use lib.Seq.{set_at, drop-cons, append_snoc}
use Rattle.lists.specs.Plain.{tab}
use Rattle.lists.proofs.Tab.{length_tab, tab_suc}

pub fill_next : {B : Type 0} (f : ℕ → B) (l : List B) (i : ℕ) (v : B) → i < length l → v ≡ f i → set (tab f i ++ drop i l) i v ≡ tab f (suc i) ++ drop (suc i) l
fill_next {B} f l i v h e =
    ap (λ (r : List B). set (tab f i ++ r) i v) (drop-cons l i v h)
    ∙ set_at (tab f i) (get_or l i v) (drop (suc i) l) v i (length_tab f i)
    ∙ ap (λ (w : B). tab f i ++ w ∷ drop (suc i) l) e
    ∙ sym (append_snoc (tab f i) (f i) (drop (suc i) l))
    ∙ ap (λ (r : List B). r ++ drop (suc i) l) (sym (tab_suc f i))
