-- Finding in a file that collecting accepts and whose records never fall in key: document 02, "One". Its sentence is `FindsInOrder`, below.
use Rattle.std.specs.Prelude.{◌≡◌, ◌⊎◌, true, false, not, List, [], ◌∷◌, ℕ, ◌+◌, ◌*◌, ◌≤◌, ◌<◌, length, get_or, take}
use Rattle.numbers.specs.Numbers.{part}
use Rattle.refusal.specs.Answer.{accepted, or_else}
use Rattle.field.specs.declared.Field.{Field}
use Rattle.field.specs.Field.{number_field, number_at}
use Rattle.btree_v2_header.specs.declared.BTreeV2Header.{BTreeV2Header}
use Rattle.read_checks.specs.Tests.{no_records}
use Rattle.btree_v2_collect.specs.Walk.{Counts, fine}
use Rattle.btree_v2_collect.specs.InFile.{places_at, records_at}
use Rattle.btree_v2_collect.specs.Collect.{collected}
use Rattle.btree_v2_find.specs.Find.{place_found, descended}

-- Records of rs bytes end to end, as collecting puts them out, and the keys that they have by the field f.
module _ (records : List ℕ) (rs : ℕ) (f : Field) where
  -- The key of record i.
  abbrev pub key_of : ℕ → ℕ
  key_of i = number_at records f (i * rs)

  -- n records never fall in key.
  abbrev pub NeverFall : ℕ → Type 0
  NeverFall n = (i : ℕ) → i + 1 < n → key_of i ≤ key_of (i + 1)

  -- Record i is the first of n with the key x; and none of n has it.
  pub record First (n x i : ℕ) : Type 0 where
    pub among : i < n
    pub has : key_of i ≡ x
    pub before : (j : ℕ) → j < i → key_of j ≡ x → ⊥

  abbrev pub None : ℕ → ℕ → Type 0
  None n x = (i : ℕ) → i < n → key_of i ≡ x → ⊥

-- The places in the file of a tree's records, in the order of collecting.
unfoldable pub places_of : List ℕ → BTreeV2Header → List ℕ
places_of file h =
    or_else (not (no_records h.total_records h.num_records_in_root)) []
    (places_at file h.geometry h.depth h.root_node_address h.num_records_in_root)

-- The size of a tree's records.
abbrev pub record_size : BTreeV2Header → ℕ
record_size h = h.geometry.record_size

-- The key is a field of the tree's records, where it has any.
abbrev pub HasKey : BTreeV2Header → Field → Type 0
HasKey h f = no_records h.total_records h.num_records_in_root ≡ false → number_field f (record_size h) ≡ true

-- Finding's answer: a place, or none.
abbrev pub answered : List ℕ → BTreeV2Header → Field → ℕ → List ℕ
answered file h f x = place_found file f x (descended file h f x)

-- What finding the key x answers where collecting has put n records out to the front of o: these are the records at the tree's places, one
-- for each, record i the one at place i; the answer is the place of the first with the key, and none exactly where none has it. One of the
-- two is the case.
pub record FindsFirst (file : List ℕ) (h : BTreeV2Header) (f : Field) (x : ℕ) (o : List ℕ) (n : ℕ) : Type 0 where
  pub many : length (places_of file h) ≡ n
  pub bytes : take (n * record_size h) o ≡ records_at file h.geometry (places_of file h)
  pub each : (i : ℕ) → i < n → part o (i * record_size h) (record_size h) ≡ part file (get_or (places_of file h) i 0) (record_size h)
  pub accepts : (descended file h f x).ends ≡ accepted []
  pub first : (i : ℕ) → First o (record_size h) f n x i → answered file h f x ≡ get_or (places_of file h) i 0 ∷ []
  pub none : None o (record_size h) f n x → answered file h f x ≡ []
  pub only : answered file h f x ≡ [] → None o (record_size h) f n x
  pub either : ((i : ℕ) × First o (record_size h) f n x i) ⊎ None o (record_size h) f n x

-- The sentence: where collecting, given output enough, accepts the file and the records that it puts out never fall in key, the answer is
-- the place in the file of the first record with the key, and none exactly when no record put out has it. The key has to be a field of the
-- records, where there are any; else finding is refused by 17.
abbrev pub FindsInOrder : Type 0
FindsInOrder =
    (file : List ℕ) (h : BTreeV2Header) (f : Field) (x : ℕ) (out o : List ℕ) (c : Counts)
    → collected file h out ≡ fine c o → HasKey h f → NeverFall o (record_size h) f c.records → FindsFirst file h f x o c.records
