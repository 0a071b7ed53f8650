-- What the writing call answers and leaves in its two outputs: document 01, "Header and node image" and "Causes and numbers".
use Rattle.std.specs.Prelude.{ℕ, ◌+◌, ◌-◌, ◌*◌, ◌^◌, List, [], ◌∷◌, leb, eqb, length}
use Rattle.numbers.specs.Numbers.{field_size}
use Rattle.refusal.specs.Answer.{Answer, refused, or_else, on_accepted, if_accepted}
use Rattle.plan.specs.Planned.{plan_answer}
use Rattle.numbers.specs.Places.{over}
use Rattle.format.specs.declared.Request.{Request}
use Rattle.format.specs.Bytes.{header_size}
use Rattle.format.specs.Request.{nodes_of, image_of, header_from}

module _ (q : Request) where
  -- The answer, from the numbers and the lengths of the record buffer, the header buffer and the image buffer.
  unfoldable pub write_answer : ℕ → ℕ → ℕ → Answer
  write_answer recs_length header_length image_length =
      or_else (field_size q.geometry.offset_size) (refused 4 (q.geometry.offset_size ∷ []))
      (or_else (field_size q.length_size) (refused 5 (q.length_size ∷ []))
      (on_accepted (plan_answer q.record_count q.geometry)
      (or_else (eqb recs_length (q.record_count * q.geometry.record_size)) (refused 12 (recs_length ∷ []))
      (or_else (leb q.record_count (2 ^ (8 * q.length_size) - 1)) (refused 13 (q.record_count ∷ []))
      (or_else (leb (q.start + nodes_of q * q.geometry.node_size) (2 ^ (8 * q.geometry.offset_size) - 1)) (refused 14 (q.start ∷ []))
      (or_else (leb (header_size q.geometry.offset_size q.length_size) header_length) (refused 15 (header_length ∷ []))
      (or_else (leb (nodes_of q * q.geometry.node_size) image_length) (refused 15 (image_length ∷ []))
      (plan_answer q.record_count q.geometry))))))))

  -- The header buffer and the image buffer at exit.
  module _ (recs header_entry image_entry : List ℕ) where
    unfoldable pub written : Answer
    written = write_answer (length recs) (length header_entry) (length image_entry)

    unfoldable pub header_exit : List ℕ
    header_exit = if_accepted written (over (header_from q) header_entry) header_entry

    unfoldable pub image_exit : List ℕ
    image_exit = if_accepted written (over (image_of q recs) image_entry) image_entry
