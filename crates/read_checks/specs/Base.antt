-- Reading the part of a file that stands behind a block of site notes: document 02, "Two".
use Rattle.std.specs.Prelude.{ℕ, List, [], leb, length, drop}
use Rattle.refusal.specs.Answer.{Answer, accepted, refused, or_else}

-- The refusal where the base is beyond the file's length, else what `read` gives of the part of the file from the base on.
unfoldable pub on_part : {A : Type 0} → List ℕ → ℕ → A → (List ℕ → A) → A
on_part file base refusal read = or_else (leb base (length file)) refusal (read (drop base file))

-- Refusal 18 where the base is beyond the file's length.
abbrev pub base_test : List ℕ → ℕ → Answer
base_test file base = on_part file base (refused 18 []) (λ p. accepted [])
