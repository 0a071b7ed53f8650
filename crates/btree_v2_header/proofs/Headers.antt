-- The header reader: its tests, and the fields.
use mathlib.Core.Path.{◌≡◌, refl, sym, ◌∙◌}
use mathlib.Core.Bool.{true}
use mathlib.Core.List.{List, []}
use Prim.Native.Nat.{ℕ, ◌+◌, ◌≤◌}
use native.Mathlib.Omega.{arith}
use mir.Syntax.{w16, w32, w64}
use lib.ListN.{length, get_or}
use borrow.Author.Tests.{le-leb}
use Rattle.std.specs.Prelude.{Result, Ok, Err, ⊤, MatchResult}
use Rattle.std.specs.Int.{from_le_bytes}
use Rattle.numbers.specs.Numbers.{part, num, field_size}
use Rattle.numbers.proofs.Numbers.{field_size_8}
use Rattle.numbers.proofs.Reading.{num_1, bytes_num}
use Rattle.refusal.specs.declared.Refusal.{Refusal}
use Rattle.refusal.specs.Answer.{accepted, refusal_of, verdict_of}
use Rattle.read_checks.specs.Tests.{checksum_test}
use Rattle.read_checks.proofs.Checks.{sum_right, sum_wrong}
use Rattle.btree_v2_header.specs.Header.{header_figures, header_at, with_base, parsed}
use Rattle.btree_v2_header.specs.declared.BTreeV2Header.{BTreeV2Header}
use Rattle.btree_v2_header.specs.Parsing.{Begun, FieldsThere}

-- `read_sized`: an offset or a length has two, four or eight bytes.
module _ (l : List ℕ) (p size : ℕ) (sized : (field_size size ≡ true) × (p + size ≤ length l)) where
  pub sized_2 : (b : List ℕ) (x : ℕ) → size ≡ 2 → b ≡ part l p 2 → x ≡ from_le_bytes w16 b → x ≡ num l p size
  sized_2 b x e of is = rw e (is ∙ bytes_num l p 1 (omega arith) b of)

  pub sized_4 : (b : List ℕ) (x : ℕ) → size ≡ 4 → b ≡ part l p 4 → x ≡ from_le_bytes w32 b → x ≡ num l p size
  sized_4 b x e of is = rw e (is ∙ bytes_num l p 3 (omega arith) b of)

  module _ (not-2 : size ≡ 2 → ⊥) (not-4 : size ≡ 4 → ⊥) where
    is_8 : size ≡ 8
    is_8 = field_size_8 size sized.0 not-2 not-4

    eight_there : p + 8 ≤ length l
    eight_there = omega (arith, is_8)

    pub sized_8 : (b : List ℕ) (x : ℕ) → b ≡ part l p 8 → x ≡ from_le_bytes w64 b → x ≡ num l p size
    sized_8 b x of is = rw is_8 (is ∙ bytes_num l p 7 eight_there b of)

-- `check_rest`: where only the checksum is left to test.
module _ (file : List ℕ) (o ow lw : ℕ) (b : Begun file o ow) (there : o + (16 + ow + 2 + lw + 4) ≤ length file) (sized : field_size lw ≡ true) where
  answers : parsed file o ow lw ≡ checksum_test file o (o + (16 + ow + 2 + lw)) (accepted (header_figures (header_at file o ow lw)))
  unfolding parsed
  answers =
      let end : o + (16 + ow + 2 + lw) ≡ o + 18 + ow + lw = omega arith in
      rw (
        le-leb (o + 4) (length file) (omega arith),
        b.signature,
        le-leb (o + 16) (length file) (omega arith),
        b.version,
        b.size,
        le-leb (o + 16 + ow) (length file) (omega arith),
        le-leb (o + 18 + ow) (length file) (omega arith),
        sized,
        le-leb (o + 18 + ow + lw) (length file) (omega arith),
        le-leb (o + (22 + ow + lw)) (length file) (omega arith),
        end,
      )

  pub rest_is : (v : Result ⊤ Refusal) → verdict_of v ≡ checksum_test file o (o + (16 + ow + 2 + lw)) (accepted [])
      → MatchResult v (λ passed. FieldsThere file o ow lw) (λ cause. refusal_of cause ≡ parsed file o ow lw)
  rest_is (Ok t) code =
      record {
        there = omega arith;
        offsets = b.size;
        lengths = sized;
        answer = answers ∙ sum_right file o (o + (16 + ow + 2 + lw)) (Ok t) code refl _;
      }
  rest_is (Err r) code = rw answers (sym (sum_wrong file o (o + (16 + ow + 2 + lw)) (Err r) code r refl _))

-- The fields, as they are read.
pub fields_are : (file : List ℕ) (base o ow lw a b c d e f : ℕ) → FieldsThere file o ow lw → a ≡ num file (o + 6) 4 → b ≡ num file (o + 10) 2 → c ≡ num file (o + 12) 2 → d ≡ num file (o + 16) ow
    → e ≡ num file (o + 16 + ow) 2 → f ≡ num file (o + 18 + ow) lw
    → ◌≡◌ {A = BTreeV2Header}
    (record {
      tree_type = get_or file (o + 5) 0;
      geometry = record { node_size = a; record_size = b; offset_size = ow };
      depth = c;
      root_node_address = d;
      num_records_in_root = e;
      total_records = f;
      base = base;
    })
    (with_base base (header_at file o ow lw))
unfolding header_at
fields_are file base o ow lw a b c d e f h ha hb hc hd he hf =
    rw (num_1 file (o + 5) (omega (arith, h.there)), ha, hb, hc, hd, he, hf)
