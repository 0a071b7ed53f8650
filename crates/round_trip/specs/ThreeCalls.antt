-- A write, the header reader and the collector, one after another: what they answer and leave, and the complete return of records as a claim on
-- what the three calls returned. From document 01, "Collecting", and document 02, "Two".
use Rattle.std.specs.Prelude.{◌≡◌, List, [], ◌∷◌, ℕ, ◌+◌, ◌-◌, ◌*◌, ◌≤◌, length, take, drop, Result, Ok, Err}
use Rattle.numbers.specs.Numbers.{part}
use Rattle.refusal.specs.declared.Refusal.{Refusal}
use Rattle.refusal.specs.Answer.{accepted, refusal_of, verdict_of}
use Rattle.plan.specs.declared.BTreeV2Plan.{BTreeV2Plan}
use Rattle.plan.specs.Planned.{plan_answer_of}
use Rattle.write_checks.specs.Writing as writer
use Rattle.format.specs.declared.Request.{Request}
use Rattle.format.specs.Bytes.{header_size, address}
use Rattle.write_checks.specs.Writing.{header_exit, image_exit}
use Rattle.btree_v2_collect.specs.Walk.{Run, fine, if_passed, no_counts}
use Rattle.btree_v2_collect.specs.Collect as collector
use Rattle.btree_v2_header.specs.declared.BTreeV2Header.{BTreeV2Header}
use Rattle.btree_v2_collect.specs.Collect.{run_cells, run_output}
use Rattle.btree_v2_header.specs.Answers.{header_answer_of, Parses}
use Rattle.btree_v2_collect.specs.declared.Collected.{Collected}
use Rattle.btree_v2_collect.specs.declared.Tally.{Tally}
use Rattle.btree_v2_collect.specs.Answers.{collected_cells}
use Rattle.round_trip.specs.declared.Reading.{Reading}
use Rattle.round_trip.specs.declared.RoundTrip.{RoundTrip}
use Rattle.round_trip.specs.Nodes.{node_records}

-- What the three calls are lent: the record list, the header buffer, the image buffer, the file, the base, the place of the header in the
-- part from the base on, and the output.
pub record Lent : Type 0 where
  pub records : List ℕ
  pub header : List ℕ
  pub image : List ℕ
  pub file : List ℕ
  pub base : ℕ
  pub place : ℕ
  pub output : List ℕ

abbrev pub lent : List ℕ → List ℕ → List ℕ → Reading → List ℕ → Lent
lent records header image reading output =
    record {
      records = records;
      header = header;
      image = image;
      file = reading.file.now;
      base = reading.base;
      place = reading.place;
      output = output;
    }

-- The part of the file from the base on.
abbrev pub part_of : Lent → List ℕ
part_of s = drop s.base s.file

-- Collecting the tree of the header that was read; a refused header ends the reading with its refusal.
abbrev pub on_parsed : Result BTreeV2Header Refusal → List ℕ → List ℕ → Run
on_parsed (Ok h) file output = collector.collected_at file h output
on_parsed (Err r) file output = if_passed (refusal_of r) no_counts output (fine no_counts output)

-- A collecting's answer and the output at exit are those of a run.
pub record Collects (run : Run) (c : Collected) (output_last : List ℕ) : Type 0 where
  pub cells : collected_cells c ≡ run_cells run
  pub output : output_last ≡ run_output run

-- A file, or the part of one, holds at the place the header's bytes that the write left, and from start on the bytes of its nodes, NS for each
-- of the nodes that it answered.
pub record Holds (q : Request) (p : BTreeV2Plan) (file : List ℕ) (place : ℕ) (header_last image_last : List ℕ) : Type 0 where
  pub header : part file place (header_size q.geometry.offset_size q.length_size) ≡ take (header_size q.geometry.offset_size q.length_size) header_last
  pub nodes : part file q.start (p.nodes * q.geometry.node_size) ≡ take (p.nodes * q.geometry.node_size) image_last

-- The counts of leaves and nodes that demand 3 lists, of the plan p that the write answered: leaves as answered, one more than the records from
-- internal nodes; leaves and internal nodes together the nodes answered, at most N.
pub record NodesCounted (q : Request) (p : BTreeV2Plan) (t : Tally) : Type 0 where
  pub leaves : t.leaves ≡ p.leaves
  pub one_more : t.leaves ≡ t.internal_records + 1
  pub all_nodes : t.leaves + t.internals ≡ p.nodes
  pub at_most : p.nodes ≤ q.record_count

-- What demand 3 lists, of that plan: the header as written, its root the last of the nodes, and the base; collecting accepted; the records
-- written at the front of the output, and its other bytes as they were; N records put out; and the counts where there is a record: the leaf
-- of none is not read.
pub record Complete (q : Request) (p : BTreeV2Plan) (s : Lent) (r : RoundTrip) (output_last : List ℕ) : Type 0 where
  pub header : header_answer_of r.header
      ≡ accepted
      (q.tree_type
      ∷ q.geometry.node_size
      ∷ q.geometry.record_size
      ∷ p.depth
      ∷ address q (p.nodes - 1)
      ∷ node_records q (p.nodes - 1)
      ∷ q.record_count
      ∷ s.base
      ∷ [])
  pub collected : verdict_of r.collected.verdict ≡ accepted []
  pub front : take (q.record_count * q.geometry.record_size) output_last ≡ s.records
  pub rest : drop (q.record_count * q.geometry.record_size) output_last ≡ drop (q.record_count * q.geometry.record_size) s.output
  pub put_out : r.collected.tally.records ≡ q.record_count
  pub counts : 1 ≤ q.record_count → NodesCounted q p r.collected.tally

-- The three calls: the answers and the buffers at exit are those of the three definitions; and demand 3, of what the part from the base on
-- holds.
pub record Answered (q : Request) (s : Lent) (r : RoundTrip) (header_last image_last output_last : List ℕ) : Type 0 where
  pub written : plan_answer_of r.written ≡ writer.written q s.records s.header s.image
  pub header_left : header_last ≡ header_exit q s.records s.header s.image
  pub image_left : image_last ≡ image_exit q s.records s.header s.image
  pub parsed : Parses s.file s.base s.place q.geometry.offset_size q.length_size r.header
  pub collected : Collects (on_parsed r.header s.file s.output) r.collected output_last
  pub complete : (p : BTreeV2Plan) → r.written ≡ Ok p → Holds q p (part_of s) s.place header_last image_last
      → q.record_count * q.geometry.record_size ≤ length s.output → Complete q p s r output_last
