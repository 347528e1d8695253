-- Lines in pairs, a code and its value: "A code is 1 to 4 digits."
use Rattle.std.specs.Prelude.{ℕ, ◌+◌, ◌≤◌, Bool, cond, ◌&&◌, ◌≡◌, List, [], ◌∷◌, length, leb, Option, None, Some, Result, Ok, Err, MatchOption}
use Rattle.real.specs.Refusal.{bad_text, number_of}
use Rattle.real.specs.Reply.{Reply, given, check}
use Rattle.numeral.specs.Digits.{is_whole, value_of}
use Rattle.real.specs.declared.refusal.Refusal.{Refusal}
use Rattle.dxf.specs.Line.{lines_of}
use Rattle.dxf.specs.declared.item.Entry.{Entry}

unfoldable pub is_code : List ℕ → Bool
is_code t = leb (length t) 4 && is_whole t

-- a code and its value, a code with no value line, or "another form of code"
pub data Item : Type 0 where
  pair : ℕ → List ℕ → Item
  lone : ℕ → Item
  odd : Item

unfoldable pub items_of : List (List ℕ) → List Item
items_of [] = []
items_of (c ∷ []) = cond (is_code c) (lone (value_of c)) odd ∷ []
items_of (c ∷ v ∷ t) = cond (is_code c) (pair (value_of c) v) odd ∷ items_of t

-- ---- the words of the contracts

unfoldable pub code_of : List ℕ → Reply ℕ
code_of t = check (is_code t) bad_text (given (value_of t))

-- the items of a text
unfoldable pub items_in : List ℕ → List Item
items_in b = items_of (lines_of b)

-- what a text begins with: no item, a line that is no code, a code with no value line, or a code, its value and then the text's rest
unfoldable pub BeginsWith : List ℕ → Result (Option Entry) Refusal → Type 0
BeginsWith b (Err e) = (number_of e ≡ bad_text) × (t : List Item) × (items_in b ≡ odd ∷ t)
BeginsWith b (Ok None) = items_in b ≡ []
BeginsWith b (Ok (Some e)) = MatchOption e.value (items_in b ≡ lone e.code ∷ []) (λ v. (items_in b ≡ pair e.code v.now ∷ items_in e.rest.now) × (length e.rest.now + 2 ≤ length b))
