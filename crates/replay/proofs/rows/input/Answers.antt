-- The bytes of `input`: each call of its closure gives the byte at its place and leaves the closure as it was.
use Rattle.std.proofs.Common.{rules, arith, ◌≡◌, ℕ, suc, zero, ◌+◌, ◌<◌, ◌≤◌, ◌∙◌, List, get_or, inl, inr, subst}
use denote.Param.Members.{Mut}
use Rattle.std.proofs.lemmas.Bool.{cases_lt}
use Rattle.std.proofs.lemmas.List.FromFn.{fill_by_all}
use Rattle.std.specs.Array.{IsFromFnResultFrom}
use Rattle.std.specs.Iterator.{ActsAs}
use Rattle.replay.specs.Inputs.{byte_of, bytes_of}
use Rattle.replay.proofs.rows.input.Goals as goal

module _ {F : Type 0} (g : Mut F (ℕ × Unit {0}) ℕ) (f : F) (h : ℕ → ℕ) (acts : ActsAs g f h) where
  made : (bytes : List ℕ) (i n : ℕ) → IsFromFnResultFrom g f bytes i n → (k : ℕ) → i ≤ k → k < i + n → get_or bytes k 0 ≡ h k
  made bytes i zero m k l u = absurd (omega arith)
  made bytes i (suc n) (q, b, at, call, m) k l u =
      elim (cases_lt i k) [
        | inl above ↦ made bytes (i + 1) n (subst (λ q. IsFromFnResultFrom g q bytes (i + 1) n) (acts i b q call).0 m) k (omega arith) (omega arith)
        | inr below ↦ let e : k ≡ i = omega arith in rw e (at.1 0 ∙ (acts i b q call).1)
      ]

pub returns : goal.returns
unfolding bytes_of
returns g c =
    fill_by_all (byte_of c.args.n) _ g.row.N 0 c.from_fn.ensures.items.long
    (λ k u. made _ _ (byte_of c.args.n) (λ i b f h. search rules) _ 0 g.row.N c.from_fn.ensures.items.each k (omega arith) (omega arith))
