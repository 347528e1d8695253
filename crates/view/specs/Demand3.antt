-- Demand 3 of document 00, sentence by sentence, of the library's own answers: at any grade, and so at `double`. proofs/Demand3.antt proves it of every record that lists without refusal, proofs/Made.antt of what `create` and `from_new_start` answer.
use Rattle.std.specs.Prelude.{◌≡◌, Bool, false, ◌&&◌, List, ◌++◌, ℕ, ◌*◌, ◌-◌, ◌<◌, ◌≤◌, length, drop, T, ltb, Float}
use Rattle.std.specs.Float.Ieee.{neg, to_bits, fits}
use Rattle.real.specs.Refusal.{bad_trim}
use Rattle.real.specs.Reply.{refused, given}
use Rattle.plane.specs.Grade.{Grade}
use Rattle.plane.specs.declared.vector2.Vector2.{Vector2}
use Rattle.plane.specs.declared.pline_vertex.PlineVertex.{PlineVertex}
use Rattle.lists.specs.Plain.{Vert, Step, turn, trim, flat, row_list, PlainSteps}
use Rattle.view.specs.Record.{listed}
use Rattle.view.specs.Answers.{list_of, list_buffer, reverse_of, trim_of}
use Rattle.view.specs.Create.{create_of, new_start_of}
use Rattle.view.specs.Rows.{step, row}
use Rattle.view.specs.declared.view_data.PlineViewData.{PlineViewData}

-- two numbers of the format with "equal bits"
pub record SameBits (g : Grade) (x y : Float) : Type 0 where
  pub first : T (fits g.format x)
  pub second : T (fits g.format y)
  pub bits : to_bits g.format x ≡ to_bits g.format y

-- "if its offset is 0, its two bulges have equal bits"
abbrev pub Even : Grade → PlineViewData → Type 0
Even g d = d.end_index_offset ≡ 0 → SameBits g d.updated_start.bulge d.updated_end_bulge

module _ (g : Grade) (s : List Float) where
  -- "a record that lists without refusal": with some buffer the library answers a count
  pub record Unrefused (d : PlineViewData) : Type 0 where
    pub buffer : ℕ
    pub count : ℕ
    pub answer : list_of g s d buffer ≡ given count

  -- the record lists l: into any buffer with room the library writes l from the start, and answers how many vertices l has
  pub record Lists (d : PlineViewData) (l : List (Vert Float)) : Type 0 where
    pub answer : (m : ℕ) → 3 * length l ≤ m → list_of g s d m ≡ given (length l)
    pub buffer : (out : List Float) → 3 * length l ≤ length out → list_buffer g s d out ≡ flat l ++ drop (3 * length l) out

  -- what is said of each record d on the way, and of l, which is what the same steps do to the plain list
  pub record Kept (d : PlineViewData) (l : List (Vert Float)) : Type 0 where
    -- "Each resulting record lists what the same steps do to the plain list."
    pub lists : Lists d l
    -- "Reversal turns the positions round, gives each segment its old bulge negated, and ends in bulge plus zero. Trim i to j keeps those vertices and ends in plus zero"
    pub plain : PlainSteps neg g.zero l
    -- a reversal is given
    pub turned : reverse_of g s d ≡ given (step g s turn d)
    -- "of n vertices [a trim] is refused exactly when 0 <= i < j < n does not hold, and a refused trim changes nothing"
    pub trimmed : (i j : ℕ) → i < j → j < length l → trim_of g s d i j ≡ given (step g s (trim i j) d)
    pub refusal : (i j : ℕ) → (ltb i j && ltb j (length l)) ≡ false → trim_of g s d i j ≡ refused bad_trim
    pub unchanged : (i j : ℕ) → (ltb i j && ltb j (length l)) ≡ false → step g s (trim i j) d ≡ d
    -- "Reversing twice changes nothing, and trim i to j after a reversal is trim n-1-j to n-1-i before it."
    pub twice : step g s turn (step g s turn d) ≡ d
    pub mirrored : (i j : ℕ) → i < j → j < length l → step g s (trim i j) (step g s turn d) ≡ step g s turn (step g s (trim (length l - 1 - j) (length l - 1 - i)) d)

  -- "Apply any row of reversals and trims."
  pub record Demand3 (d : PlineViewData) : Type 0 where
    pub rows : (ts : List Step) → Kept (row g s ts d) (row_list neg g.zero ts (listed g s d))
    -- "no row of steps changes the number"
    pub number : (ts : List Step) → (row g s ts d).cut_number ≡ d.cut_number

-- a view as `create` and `from_new_start` make it
pub record Made (g : Grade) (s : List Float) (d : PlineViewData) : Type 0 where
  pub demand3 : Demand3 g s d
  -- "`create` and `from_new_start` give 0"
  pub number : d.cut_number ≡ 0

-- What `create` and `from_new_start` answer has demand 3, whatever they are asked and at whatever limit: it lists without refusal, and where its offset is 0 its two bulges are equal.
pub record MadeDemand3 (g : Grade) : Type 0 where
  pub created : (limit : Float) (s : List Float) (start : ℕ) (p : Vector2) (at : ℕ) (first : PlineVertex) (traverse : ℕ) (eps : Float) (d : PlineViewData)
      → create_of g limit s start p at first traverse eps ≡ given d → Made g s d
  pub started : (limit : Float) (s : List Float) (closed : Bool) (p : Vector2) (start : ℕ) (eps : Float) (d : PlineViewData)
      → new_start_of g limit s closed p start eps ≡ given d → Made g s d
