-- What a buffer holds after items were put at a place of it: document 01, "Header and node image" (bytes of a longer buffer stay); and while
-- it is filled, field after field: document 02, "Three".
use Rattle.std.specs.Prelude.{ℕ, ◌+◌, List, [], ◌∷◌, ◌++◌, length, drop, take, leb}
use Rattle.numbers.specs.Numbers.{pick}

-- o with b at place p and all else as it was.
unfoldable pub stored : {A : Type 0} → List A → ℕ → List A → List A
stored o p b = take p o ++ (b ++ drop (p + length b) o)

-- The same where b fits, else o unchanged.
unfoldable pub put : {A : Type 0} → List A → ℕ → List A → List A
put o p b = pick (leb (p + length b) (length o)) (stored o p b) o

-- b, and after it what was there.
unfoldable pub over : List ℕ → List ℕ → List ℕ
over b o = b ++ drop (length b) o

-- The bytes of fields, one field after another.
unfoldable pub joined : List (List ℕ) → List ℕ
joined [] = []
joined (b ∷ bs) = b ++ joined bs

-- The first k of these fields, or all where there are fewer, and after them what was there.
unfoldable pub filled_to : ℕ → List (List ℕ) → List ℕ → List ℕ
filled_to k fields o = over (joined (take k fields)) o
