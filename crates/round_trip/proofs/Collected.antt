-- The nodes of an accepted write, read back: collecting puts out its records, all of them and in order.
use mathlib.Core.Path.{◌≡◌, refl, sym}
use mathlib.Core.List.{List, ◌++◌}
use Prim.Native.Nat.{ℕ, ◌*◌, ◌≤◌}
use native.Mathlib.Nat.{zero-add, zero-mul}
use native.Mathlib.Omega.{arith}
use lib.ListN.{length, drop}
use Rattle.read_checks.proofs.Root.{some_records, root_passes}
use Rattle.checksum.proofs.Promise.{lookup3_lt}
use Rattle.numbers.specs.Numbers.{part}
use Rattle.numbers.proofs.Lists.{stored_is}
use Rattle.refusal.specs.Answer.{accepted}
use Rattle.plan.specs.Tree.{size}
use Rattle.plan.proofs.Trees.{leaves_one_more, nodes_kinds, nodes_le_size}
use Rattle.format.specs.Bytes.{address}
use Rattle.btree_v2_collect.specs.Walk.{fine, no_counts, Tests, node_run}
use Rattle.format.specs.declared.Request.{Request}
use Rattle.format.specs.Request.{depth_of, nodes_of, image_of, root_of, root_records_of}
use Rattle.btree_v2_header.specs.Header.{header_figures, header_at, parsed}
use Rattle.btree_v2_collect.specs.Collect.{collect_tests, collected}
use Rattle.round_trip.specs.Return.{header_written, Returned}
use Rattle.write_checks.proofs.Accepted.{Accepts, root_fits}
use Rattle.format.proofs.Lengths.{range_all, length_image}
use Rattle.btree_v2_collect.proofs.Sound.{tree_tally}
use Rattle.round_trip.proofs.Image.{Passes, Imaged, collecting_passes, image_walks}
use Rattle.write_checks.proofs.Fitting.{tree, positive, plan, sized, filled, fits, root_some, deep, room}

module _ (q : Request) (recs : List ℕ) (a : Accepts q recs) (some : 1 ≤ q.record_count) where
  -- Its nodes stand in the file, and there is room in the output.
  module _ (file out : List ℕ) (stands : part file q.start (nodes_of q * q.geometry.node_size) ≡ image_of q recs) (long : q.record_count * q.geometry.record_size ≤ length out) where
    imaged : Imaged q recs file (depth_of q) (tree q) 0 0
    unfolding address nodes_of image_of root_of
    imaged =
        let e : address q 0 ≡ q.start = omega arith in
        record {
          fits = fits q recs a some;
          room = room q recs a some;
          reach = rw zero-add (root_fits q recs a);
          stands = rw (length_image q recs (depth_of q) (tree q) 0 0 (fits q recs a some) (room q recs a some), e) stands;
        }

    -- By any tests that what was written passes.
    pub walks : (tests : Tests) → Passes q recs file tests
        → node_run file q.geometry tests (depth_of q) (root_of q) (root_records_of q) no_counts out
        ≡ fine (tree_tally (depth_of q) (tree q)) (recs ++ drop (q.record_count * q.geometry.record_size) out)
    unfolding root_of root_records_of
    walks tests passes =
        let w = image_walks q recs file tests passes (depth_of q) (tree q) 0 0 imaged no_counts out (rw (zero-add, sized q recs a some) long) in
        let all = range_all q recs (size (depth_of q) (tree q)) (rw (sized q recs a some) a.records) in
        simp (zero-add, zero-mul, all, stored_is, a.records) at w

    pub collects : collected file (header_written q) out ≡ fine (tree_tally (depth_of q) (tree q)) (recs ++ drop (q.record_count * q.geometry.record_size) out)
    unfolding collected header_written
    collects =
        let root = root_some q recs a some in
        rw (some_records q.record_count (root_records_of q) (λ e. omega arith) (λ e. omega arith), ← root_passes q.geometry.record_size (depth_of q) (λ e. omega (arith, positive q (plan q recs a some))) (deep q recs a some))
        (walks (collect_tests file q.geometry) (collecting_passes q recs file lookup3_lt a.offset))

    -- With the header read back, all is returned.
    pub returned : (o : ℕ) → parsed file o q.geometry.offset_size q.length_size ≡ accepted (header_figures (header_written q))
        → header_at file o q.geometry.offset_size q.length_size ≡ header_written q → Returned q recs file o out
    unfolding nodes_of
    returned o h fields =
        record {
          counts = tree_tally (depth_of q) (tree q);
          header = h;
          fields = fields;
          output = collects;
          records = sized q recs a some;
          leaves_planned = refl;
          one_more = leaves_one_more (depth_of q) (tree q);
          all_nodes = sym (nodes_kinds (depth_of q) (tree q));
          at_most = rw (sized q recs a some) at (nodes_le_size (depth_of q) (tree q) (filled q recs a some));
        }
