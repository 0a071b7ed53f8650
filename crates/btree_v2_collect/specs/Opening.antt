-- What opening a header's tree gives: the tests before the root, and the tree in the part of the file from the header's base on.
use Rattle.std.specs.Prelude.{◌≡◌, true, false, not, Bool, Result, Ok, Err, Option, Some, None, List, [], ℕ, drop}
use Rattle.refusal.specs.Answer.{Answer, accepted, refused, or_else, refusal_of}
use Rattle.refusal.specs.declared.Refusal.{Refusal}
use Rattle.read_checks.specs.Base.{on_part}
use Rattle.read_checks.specs.Tests.{no_records, root_test}
use Rattle.btree_v2_header.specs.declared.BTreeV2Header.{BTreeV2Header}
use Rattle.btree_v2_collect.specs.declared.tree.Tree.{Tree}

-- Whether the header's tree has no records.
abbrev pub nothing_in : BTreeV2Header → Bool
nothing_in h = no_records h.total_records h.num_records_in_root

module _ (file : List ℕ) (h : BTreeV2Header) where
  -- The tests: 18, then an empty tree's acceptance, then 8 and 16.
  abbrev pub opening : Answer
  opening =
      on_part file h.base (refused 18 []) (λ p. or_else (not (nothing_in h)) (accepted []) (root_test h.geometry.record_size h.depth))

  -- The tree that is read where they pass and it has records.
  pub record Opened (t : Tree) : Type 0 where
    pub some : false ≡ nothing_in h
    pub part : t.file.now ≡ drop h.base file
    pub address : t.root.address ≡ h.root_node_address
    pub records : t.root.records ≡ h.num_records_in_root
    pub geometry : t.geometry ≡ h.geometry
    pub depth : t.depth ≡ h.depth

  abbrev pub Opens : Result (Option Tree) Refusal → Type 0
  Opens (Ok (Some t)) = (accepted [] ≡ opening) × Opened t
  Opens (Ok None) = (accepted [] ≡ opening) × (true ≡ nothing_in h)
  Opens (Err cause) = refusal_of cause ≡ opening
