-- "how many square roots it took, equal to the number its definition takes along that path": a definition over a way w of taking roots is one text with two readings. At `plain` it
-- is a value, and at `counting` that value with the roots that were taken on the path to it. Such a text has no number of its own: it can take a root, go on from a step, or be done.
use Rattle.std.specs.Prelude.{ℕ, ◌+◌, Float}
use Rattle.std.specs.Float.{Format}
use Rattle.real.specs.Root.{root_of}
use Rattle.real.specs.declared.square_root.Rooted.{Rooted}

-- a value, and how many roots were taken for it
pub record Tally (A : Type 0) : Type 0 where
  pub value : A
  pub roots : ℕ

abbrev pub tally : {A : Type 0} → A → ℕ → Tally A
tally a n = record { value = a; roots = n }

-- a step to an A: `done` takes no root, `root` takes one, and `>>=` goes on from a step's value (`a ← step`, then the rest)
pub record Way : Type 1 where
  pub Step : Type 0 → Type 0
  pub done : {A : Type 0} → A → Step A
  pub root : Format → Float → Step Float
  pub ◌>>=◌ : {A B : Type 0} → Step A → (A → Step B) → Step B

-- a step is its value
abbrev pub plain : Way
plain = record { Step = λ A. A; done = λ a. a; root = root_of; ◌>>=◌ = λ step rest. rest step }

-- a step has its roots: none when done, one for a root, and those of a step and of the rest together
abbrev pub counting : Way
counting =
    record {
      Step = Tally;
      done = λ a. tally a 0;
      root = λ f x. tally (root_of f x) 1;
      ◌>>=◌ = λ step rest. let next = rest step.value in tally next.value (step.roots + next.roots);
    }

-- the code's answer: a value, and the roots that it took
abbrev pub tally_of : {A : Type 0} → Rooted A → Tally A
tally_of r = tally r.value r.roots
