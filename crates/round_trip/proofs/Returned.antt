-- The complete return of records, on the definitions: of every write that is accepted, what both readers give of a file in which its
-- header and its nodes stand.
use mathlib.Core.Path.{◌≡◌}
use mathlib.Core.List.{List}
use Prim.Native.Nat.{ℕ, ◌*◌, ◌≤◌, ◌<◌}
use lib.ListN.{length}
use Rattle.numbers.specs.Numbers.{part}
use Rattle.refusal.specs.Answer.{accepted}
use Rattle.btree_v2_collect.specs.Walk.{fine, no_counts}
use Rattle.format.specs.declared.Request.{Request}
use Rattle.format.specs.Bytes.{header_size}
use Rattle.format.specs.Request.{header_from}
use Rattle.write_checks.specs.Writing.{written}
use Rattle.btree_v2_header.specs.Header.{header_figures, header_at, parsed}
use Rattle.btree_v2_collect.specs.Collect.{collected}
use Rattle.round_trip.specs.Return.{Stands, header_written, Returned}
use Rattle.write_checks.proofs.Accepted.{accepts}
use Rattle.round_trip.proofs.Collected.{returned}
use Rattle.round_trip.proofs.HeaderReturn.{header_returned, fields_returned}
use Rattle.btree_v2_collect.proofs.Outcomes.{collected_none}

module _ (q : Request) (recs hdr img figures : List ℕ) (ok : written q recs hdr img ≡ accepted figures) (small : q.geometry.record_size < 65536)
    (file : List ℕ) (o : ℕ) where
  -- The header alone, whatever else the file holds.
  pub returns_header : part file o (header_size q.geometry.offset_size q.length_size) ≡ header_from q
      → parsed file o q.geometry.offset_size q.length_size ≡ accepted (header_figures (header_written q))
  returns_header = header_returned q recs (accepts q recs hdr img figures ok) small file o

  pub returns_fields : part file o (header_size q.geometry.offset_size q.length_size) ≡ header_from q
      → header_at file o q.geometry.offset_size q.length_size ≡ header_written q
  returns_fields = fields_returned q recs (accepts q recs hdr img figures ok) small file o

  -- All, where there are records.
  pub returns : (out : List ℕ) → 1 ≤ q.record_count → Stands q recs file o
      → q.record_count * q.geometry.record_size ≤ length out → Returned q recs file o out
  returns out some stands long =
      returned q recs (accepts q recs hdr img figures ok) some file out stands.nodes long o (returns_header stands.header) (returns_fields stands.header)

  -- With none, the file's nodes are not read and all counts are 0.
  pub returns_none : (out : List ℕ) → q.record_count ≡ 0 → collected file (header_written q) out ≡ fine no_counts out
  unfolding header_written
  returns_none out z = collected_none file (header_written q) out z
