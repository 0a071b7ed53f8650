-- What a test shows of the fields of every type of a table holds of those of each type that is in it.
use mathlib.Core.Path.{◌≡◌, refl, sym}
use mathlib.Core.Bool.{Bool, true, false, ◌||◌, true≢false}
use mathlib.Core.List.{List, [], ◌∷◌}
use Prim.Native.Nat.{ℕ}
use lib.Dec.{eqb}
use Rattle.std.specs.List.{list_all}
use Rattle.std.proofs.lemmas.Bool.{and_parts}
use Rattle.numbers.specs.Numbers.{pick}
use Rattle.btree_v2_record.specs.Records.{RecordField, RecordType, is_in, fields_in}

pub fields_pass : (p : List RecordField → Bool) (types : List RecordType) (t : ℕ) → list_all (λ (r : RecordType). p r.fields) types ≡ true
    → is_in types t ≡ true → p (fields_in types t) ≡ true
unfolding is_in fields_in
fields_pass p [] t e h = absurd (true≢false (sym h))
fields_pass p (r ∷ rs) t e h =
    let both = and_parts (p r.fields) (list_all (λ (q : RecordType). p q.fields) rs) e in
    by (eqb t r.number) refl both.0 (fields_pass p rs t both.1) h
  where
    by : (b : Bool) → eqb t r.number ≡ b → p r.fields ≡ true → (is_in rs t ≡ true → p (fields_in rs t) ≡ true)
        → (eqb t r.number || is_in rs t) ≡ true → p (pick (eqb t r.number) r.fields (fields_in rs t)) ≡ true
    by true is here later h = rw is here
    by false is here later h = rw is (later (rw is at h))
